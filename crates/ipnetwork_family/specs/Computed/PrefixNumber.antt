-- The value of a prefix number, computed.
use Rattle.std.specs.Prelude.{ℕ, nat_lt, if◌then◌else◌, List, length, Option, None, Some}
use Rattle.std.specs.Str.{all_ascii_digits}
use Rattle.std.specs.Str.Parse.{digits_value, without_leading_plus}

-- the number that a text names, if any
abbrev pub prefix_number_of : List ℕ → Option ℕ
prefix_number_of text =
    let digits = without_leading_plus text in
    if nat_lt 0 (length digits) then (if all_ascii_digits digits then Some (digits_value 10 digits) else None) else None
