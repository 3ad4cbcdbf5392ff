-- How a run ends that looks for free networks.
use Rattle.cidr_merge.proofs.Words.{◌≡◌, ◌++◌, ℕ, Bool, true, false, List, [], ◌∷◌, refl, sym, subst, append-nil, flat_map, if◌then◌else◌, Network, Family, Names, Written, network_line, EndsPrinting, EndsWriting, others_if}

-- the first network alone, and all of them
pub one_alone : (all : Bool) (line : Network → List ℕ) (first : Network) (others : List Network) → all ≡ false
    → line first ≡ flat_map line (first ∷ others_if all others)
one_alone all line first others e = subst (λ (a : Bool). line first ≡ flat_map line (first ∷ others_if a others)) (sym e)
    (sym (append-nil (line first)))

pub all_of_them : (all : Bool) (line : Network → List ℕ) (first : Network) (others : List Network) → all ≡ true
    → line first ++ flat_map line others ≡ flat_map line (first ∷ others_if all others)
all_of_them all line first others e =
    subst (λ (a : Bool). line first ++ flat_map line others ≡ flat_map line (first ∷ others_if a others)) (sym e) refl

module _ {W : Type 0} {w : ℕ} (names : Names) (family : Family w) (all skips : Bool) (free : List Network)
    (old new : Written W) (status : ℕ) where
  abbrev Ends : List Network → Type 0
  Ends list = EndsPrinting names family all skips list old new status

  -- no network is free
  pub prints_none : free ≡ [] → new ≡ old → status ≡ 1 → Ends free
  prints_none e same is = subst Ends (sym e) (same, is)

  -- there is one, and others or none
  pub prints_some : (first : Network) (others : List Network) → free ≡ first ∷ others
      → EndsWriting old new status (flat_map (network_line names family) (first ∷ others_if all others))
      (if skips then 3 else 0)
      → Ends free
  prints_some first others e h = subst Ends (sym e) h
