-- Tests of which one is enough, as code makes them: one after another.
use Rattle.lists.proofs.Words.{◌≡◌, ◌∙◌, ◌||◌, Bool, true, false, sym, ap}

-- the first of them holds
pub or_first : (value first rest : Bool) → value ≡ true → first ≡ true → value ≡ (first || rest)
or_first value first rest is holds = is ∙ sym (ap (λ b. b || rest) holds)

-- the first of them fails
pub or_later : (value first rest : Bool) → first ≡ false → value ≡ rest → value ≡ (first || rest)
or_later value first rest fails is = is ∙ sym (ap (λ b. b || rest) fails)
