-- The parts of a line, for its fields and its words.
use Rattle.std.specs.Prelude.{ℕ, ◌==◌, Bool, false, List, Option, None, Some, length}
use Rattle.line_addresses.specs.Fields.{fields_of}
use Rattle.line_addresses.specs.Words.{is_blank, words_of}

-- the fields of a line, or its words if there is no separator
abbrev pub parts_of : Option ℕ → List ℕ → List (List ℕ)
parts_of (Some separator) line = fields_of separator line
parts_of None line = words_of line

-- the byte divides two parts
abbrev pub cuts : Option ℕ → ℕ → Bool
cuts (Some separator) byte = byte == separator
cuts None byte = is_blank byte

-- the part is not a word, since it is empty between blanks
abbrev pub is_skipped : Option ℕ → List ℕ → Bool
is_skipped (Some separator) part = false
is_skipped None part = length part == 0
