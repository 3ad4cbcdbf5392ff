-- The words and the refused lines that are reported.
use Rattle.std.specs.Prelude.{ℕ, zero, suc, Bool, not, ◌==◌, List, [], ◌∷◌, length, String}
use Rattle.std.specs.String.{string_bytes}
use Rattle.lists.specs.Refusals.{Refused}

-- the word at this index, or an empty text past the last word
abbrev pub name_at : {Z : Type 0} → List (String Z) → ℕ → List ℕ
name_at [] place = []
name_at (word ∷ words) zero = string_bytes word
name_at (word ∷ words) (suc place) = name_at words place

-- at least one refused line was kept
abbrev pub was_refused : Refused → Bool
was_refused refused = not (length refused.kept == 0)
