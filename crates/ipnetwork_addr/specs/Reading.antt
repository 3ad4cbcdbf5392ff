-- What a reader returns.
use Rattle.std.specs.Prelude.{◌≡◌, ℕ, List, Result, MatchResult}

-- the value that the text names, or the error if it names none
abbrev pub Reads : {A E : Type 0} → (List ℕ → A → Type 0) → E → List ℕ → Result A E → Type 0
Reads {A} Names error text result =
    MatchResult result (Names text) (λ e. (e ≡ error) × ((value : A) → ¬ (Names text value)))
