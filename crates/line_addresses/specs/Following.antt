-- What follows a text in a line.
use Rattle.std.specs.Prelude.{ℕ, ◌==◌, ◌||◌, ◌&&◌, Bool, not, List, [], ◌∷◌, Option, None, Some, length, take, drop}
use Rattle.std.specs.Prelude.{bytes_eq, is_some, option_and_then, if◌then◌else◌}
use Rattle.std.specs.Char.{is_ascii_alphanumeric}
use Rattle.std.specs.List.{before_first}
use Rattle.line_addresses.specs.Addresses.{address_in}
use Rattle.line_addresses.specs.LineRuns.{is_run_byte}
use Rattle.line_addresses.specs.Words.{is_blank}

-- the byte occurs in names: an ASCII letter or digit, `-`, `.` or `_`
abbrev pub is_name_byte : ℕ → Bool
is_name_byte byte = is_ascii_alphanumeric byte || byte == 45 || byte == 46 || byte == 95

-- no name continues from one byte to the next
abbrev pub begins_name : ℕ → ℕ → Bool
begins_name before byte = not (is_name_byte before && is_name_byte byte)

-- what follows the first occurrence of the text in the line that does not begin inside a name. `before` is the byte
-- before the line
abbrev pub following_from : ℕ → List ℕ → List ℕ → Option (List ℕ)
following_from before text [] = if length text == 0 then Some [] else None
following_from before text (byte ∷ line) =
    if begins_name before byte && bytes_eq (take (length text) (byte ∷ line)) text
    then Some (drop (length text) (byte ∷ line)) else following_from byte text line

-- the same of a whole line, as if a space were before it
abbrev pub following : List ℕ → List ℕ → Option (List ℕ)
following text line = following_from 32 text line

-- a blank or `[`, or a quotation mark `"` or `'` unless the same one is before it: two of them are an empty value
abbrev pub opens : ℕ → ℕ → Bool
opens before byte = is_blank byte || byte == 91 || (byte == 34 || byte == 39) && not (byte == before)

-- the text without such bytes at its beginning
abbrev pub opened_from : ℕ → List ℕ → List ℕ
opened_from before [] = []
opened_from before (byte ∷ text) = if opens before byte then opened_from byte text else byte ∷ text

abbrev pub opened : List ℕ → List ℕ
opened text = opened_from 0 text

-- the first run of a text, which is empty if the text does not begin with a run byte
abbrev pub first_run : List ℕ → List ℕ
first_run text = before_first (λ byte. not (is_run_byte byte)) text

-- the text, if its first run has an address
abbrev pub begun_by_address : List ℕ → Option (List ℕ)
begun_by_address text = if is_some (address_in (first_run text)) then Some text else None

-- the value after the text in the line: what follows blanks, quotation marks and `[` there, if that begins with an
-- address
abbrev pub value_after : List ℕ → List ℕ → Option (List ℕ)
value_after text line = option_and_then (λ rest. begun_by_address (opened rest)) (following text line)
