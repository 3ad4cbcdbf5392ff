-- Requests and lists at which a wrong bound on the number of networks would show. Each of these computes.
use Rattle.cidr_merge.proofs.Words.{◌≡◌, ℕ, Bool, ◌∷◌, [], true, false, refl, map, Request, Union, Blocks, Counts, Exported, Nft, Ipset, Json, Addresses, Any, lenient, least_number, lacks_networks}
use Rattle.cidr_merge.proofs.Examples.{none, one, one6, plain_merge, ten}
use Rattle.cidr_merge.specs.declared.command_line.Form.{Form}
use Rattle.cidr_merge.specs.declared.shapes.Shape.TheVariants as shapes

-- a form that fills sets needs a network, and no other does
pub networks_of_forms : map (λ form. least_number (plain_merge Union form)) (Exported Nft ∷ Exported Ipset ∷ Exported Json
    ∷ Exported Addresses ∷ Counts ∷ Blocks ∷ []) ≡ 1 ∷ 1 ∷ 0 ∷ 0 ∷ 0 ∷ 0 ∷ []
networks_of_forms = refl

-- with `--allow-empty` or not, and a number of `--at-least`
abbrev asked : Form → Bool → ℕ → Request
asked form allows_empty at_least = record {
  operation = Union;
  form = form;
  skips_bad = false;
  shape = shapes.Lines lenient;
  allows_empty = allows_empty;
  at_least = at_least;
  max_change = Any;
  middle = 1;
}

pub networks_asked : map least_number (asked (Exported Nft) true 0 ∷ asked (Exported Ipset) true 0 ∷ asked Blocks true 0
    ∷ asked (Exported Nft) false 5 ∷ asked Blocks false 5 ∷ asked Counts false 1 ∷ []) ≡ 0 ∷ 0 ∷ 0 ∷ 5 ∷ 5 ∷ 1 ∷ []
networks_asked = refl

-- both families count for a `split`, and as many as wanted are enough
pub networks_cut : map (lacks_networks (record { length = 25; skips_bad = false; shape = shapes.Lines lenient; at_least = 2 }))
    (none ∷ one ∷ one6 ∷ (record { v4 = ten ∷ []; v6 = ten ∷ [] }) ∷ []) ≡ true ∷ true ∷ true ∷ false ∷ []
networks_cut = refl
