-- Numbers as texts.
use Rattle.std.specs.Prelude.{ℕ, ◌+◌, ◌-◌, ◌*◌, ◌&&◌, Bool, List, Option, None, Some, length, nat_lt, nat_le, fold}
use Rattle.std.specs.Prelude.{if◌then◌else◌}
use Rattle.std.specs.List.{list_all}
use Rattle.std.specs.Char.{is_ascii_digit}

-- the text consists of digits, one or more
abbrev pub is_number : List ℕ → Bool
is_number text = nat_lt 0 (length text) && list_all is_ascii_digit text

-- the number that decimal digits name
abbrev pub number_of : List ℕ → ℕ
number_of digits = fold (λ number digit. number * 10 + (digit - 48)) 0 digits

-- the text is a number from 1 to 4,294,967,295
abbrev pub is_ordinal : List ℕ → Bool
is_ordinal text = is_number text && nat_lt 0 (number_of text) && nat_le (number_of text) 4294967295

-- the number from 1 to 4,294,967,295 that the text is
abbrev pub ordinal_in : List ℕ → Option ℕ
ordinal_in text = if is_ordinal text then Some (number_of text) else None
