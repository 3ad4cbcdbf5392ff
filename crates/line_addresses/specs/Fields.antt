-- The fields of a line.
use Rattle.std.specs.Prelude.{ℕ, ◌-◌, List, Option, ◌==◌, slice_get}
use Rattle.std.specs.List.{slice_split}

-- the fields of a line, which is split at each separator byte
abbrev pub fields_of : ℕ → List ℕ → List (List ℕ)
fields_of separator line = slice_split (λ b. b == separator) line

-- the field with this number, from 1 on
abbrev pub field_of : ℕ → ℕ → List ℕ → Option (List ℕ)
field_of number separator line = slice_get (fields_of separator line) (number - 1)
