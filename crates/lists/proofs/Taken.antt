-- What lines that are taken add to the addresses.
use Rattle.lists.proofs.Words.{◌≡◌, inl, inr, ℕ, List, [], ◌∷◌, ◌++◌, refl, sym, subst, ◌∙◌, map, Option, asked, ReadLists, TakesLine, Takes, TakesLines}
use Rattle.std.specs.Prelude.{false}

taken : (before after : ReadLists) (line : Option (List ℕ)) → Takes before line after → before.is_out_of_memory ≡ false
    → TakesLine before line after
taken before after line (inl h) works = absurd (let q = sym h.0 ∙ works in cc)
taken before after line (inr h) works = h.1

-- a line more
pub takes_more : {X : Type 0} (now : X → List ℕ) (before mid after : ReadLists) (done : List X) (line : X)
    → TakesLines before (map now done) mid → Takes mid (asked 1024 (now line)) after
    → TakesLines before (map now (done ++ line ∷ [])) after
takes_more now before mid after [] line taken takes =
    (after, subst (λ (l : ReadLists). Takes l (asked 1024 (now line)) after) taken takes, refl)
takes_more now before mid after (x ∷ done) line taken takes =
    (taken.0, taken.1, takes_more now taken.0 mid after done line taken.2 takes)
