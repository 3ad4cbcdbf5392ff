-- The values of options.
use Rattle.std.specs.Prelude.{ℕ, ◌-◌, ◌^◌, min, ◌==◌, ◌||◌, ◌&&◌, Bool, true, false, not, List, [], ◌∷◌, Option, None}
use Rattle.std.specs.Prelude.{Some, length, nat_lt, nat_le, if◌then◌else◌, codes, bytes_eq}
use Rattle.std.specs.List.{position_or_len, before_first, after_first}
use Rattle.std.specs.Option.{is_some}
use Rattle.line_addresses.specs.Numbers.{is_number, number_of, ordinal_in}
use Rattle.line_addresses.specs.Places.{place_in}
use Rattle.options.specs.declared.table.Kind.{Kind}
use Rattle.options.specs.declared.table.Kind.TheVariants as kinds

-- the text is one byte of ASCII other than LF (10), CR (13) and NUL (0)
abbrev pub is_separator : List ℕ → Bool
is_separator [] = false
is_separator (byte ∷ []) = nat_lt byte 128 && not (byte == 10) && not (byte == 13) && not (byte == 0)
is_separator (byte ∷ other ∷ bytes) = false

-- the number that the text is, if it is at most `greatest`
abbrev pub length_in : ℕ → List ℕ → Option ℕ
length_in greatest text = if is_number text && nat_le (number_of text) greatest then Some (number_of text) else None

-- the two numbers, if both are there
abbrev pub both : Option ℕ → Option ℕ → Option (ℕ × ℕ)
both None second = None
both (Some first) None = None
both (Some first) (Some second) = Some (first, second)

-- two numbers with a comma (byte 44) between them, of which the first is at most 32 and the second at most 128
abbrev pub lengths_in : List ℕ → Option (ℕ × ℕ)
lengths_in text =
    if nat_lt (position_or_len (λ byte. byte == 44) text) (length text)
    then both (length_in 32 (before_first (λ byte. byte == 44) text))
    (length_in 128 (after_first (λ byte. byte == 44) text))
    else None

-- the text is a value of this kind
abbrev pub is_right : Kind → List ℕ → Bool
is_right kinds.Flag value = true
is_right kinds.Alone value = false
is_right kinds.File value = nat_lt 0 (length value)
is_right kinds.Text value = nat_lt 0 (length value)
is_right kinds.Number value = is_number value
is_right kinds.Field value = is_some (place_in value)
is_right kinds.Nth value = bytes_eq value (codes "first") || bytes_eq value (codes "last")
    || is_some (ordinal_in value)
is_right kinds.Separator value = is_separator value
is_right kinds.Rule value = bytes_eq value (codes "drop") || bytes_eq value (codes "keep")
    || bytes_eq value (codes "stop") || bytes_eq value (codes "report")
is_right kinds.Form value = bytes_eq value (codes "csv") || bytes_eq value (codes "ipset")
    || bytes_eq value (codes "nft")
is_right kinds.Lengths value = is_some (lengths_in value)

-- the number that the text is, where a number of more than 64 bits counts as the greatest of 64 bits
abbrev pub number_in : List ℕ → Option ℕ
number_in text = if is_number text then Some (min (number_of text) (2 ^ 64 - 1)) else None

-- the byte of a text that is exactly one byte
abbrev pub byte_in : List ℕ → Option ℕ
byte_in [] = None
byte_in (byte ∷ []) = Some byte
byte_in (byte ∷ other ∷ text) = None
