-- The rows and pairs of a table that is given in definitions, for examples: what is reported of wrong words makes no
-- difference.
use Rattle.options.proofs.Words.{Option, None, Some, Entry, Pair, Row}
use Rattle.std.specs.Prelude.{ℕ, List, [], ◌∷◌, map}
use denote.Bor.{Bor}

abbrev pub text : List ℕ → Bor (List ℕ)
text bytes = record { ref_ptr = (0, 0); now = bytes }

abbrev pub letter : List ℕ → Option ℕ
letter [] = None
letter (byte ∷ bytes) = Some byte

abbrev pub row_of : Entry → Row
row_of entry = record
    { letter = letter entry.letter; name = text entry.name; kind = entry.kind; joins = entry.joins; problem = text [] }

abbrev pub rows_of : List Entry → List Row
rows_of entries = map row_of entries

abbrev pub pair_of : ℕ × ℕ → Pair
pair_of pair = record { first = pair.0; second = pair.1; problem = text [] }

abbrev pub pairs_of : List (ℕ × ℕ) → List Pair
pairs_of pairs = map pair_of pairs
