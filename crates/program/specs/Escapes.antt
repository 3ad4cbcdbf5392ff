-- Bytes as messages show them, with what a terminal obeys, and what changes how a line looks, escaped.
use Rattle.std.specs.Prelude.{ℕ, ◌+◌, ◌-◌, ◌/◌, ◌%◌, ◌==◌, ◌&&◌, ◌||◌, Bool, true, false, not, List, [], ◌∷◌, ◌++◌}
use Rattle.std.specs.Prelude.{if◌then◌else◌, codes, nat_lt, slice_index}
use Rattle.std.specs.Int.{is_in_range}
use Rattle.std.specs.Str.Lossy.{second_byte_min, second_byte_max}

-- the length of the character that the bytes, of which there are some, begin with in UTF-8, or 0 if they begin with none
-- (Unicode, table 3-7)
abbrev pub width : List ℕ → ℕ
width bytes = let first = slice_index bytes 0 in
    if nat_lt first 0x80 then 1
    else (if not (is_in_range 0xC2 0xF4 first) then 0
    else (if not (is_in_range (second_byte_min first) (second_byte_max first) (slice_index bytes 1)) then 0
    else (if nat_lt first 0xE0 then 2
    else (if not (is_in_range 0x80 0xBF (slice_index bytes 2)) then 0
    else (if nat_lt first 0xF0 then 3
    else (if is_in_range 0x80 0xBF (slice_index bytes 3) then 4 else 0))))))

-- a byte of ASCII is a control character, and not a tab (9) that is kept
abbrev pub is_control : Bool → ℕ → Bool
is_control keeps_tabs byte = (nat_lt byte 32 && not (keeps_tabs && byte == 9)) || byte == 127

-- two bytes of UTF-8 are a control character or one that is not seen: U+0080 to U+009F, U+00AD, U+034F or U+061C
abbrev pub is_hidden_pair : ℕ → ℕ → Bool
is_hidden_pair first second =
    (first == 0xC2 && (nat_lt second 0xA0 || second == 0xAD))
    || (first == 0xCD && second == 0x8F)
    || (first == 0xD8 && second == 0x9C)

-- three bytes of UTF-8 are a character that turns others, ends a line or is not seen, U+1000 to U+3FFF: U+115F, U+1160,
-- U+17B4, U+17B5, U+180B to U+180F, U+200B to U+200F, U+2028 to U+202E, U+2060 to U+206F or U+3164
abbrev pub is_format : ℕ → ℕ → ℕ → Bool
is_format first second third =
    (first == 0xE1 && ((second == 0x85 && is_in_range 0x9F 0xA0 third) || (second == 0x9E && is_in_range 0xB4 0xB5 third)
    || (second == 0xA0 && is_in_range 0x8B 0x8F third)))
    || (first == 0xE2 && second == 0x80 && (is_in_range 0x8B 0x8F third || is_in_range 0xA8 0xAE third))
    || (first == 0xE2 && second == 0x81 && is_in_range 0xA0 0xAF third)
    || (first == 0xE3 && second == 0x85 && third == 0xA4)

-- three bytes of UTF-8 are a character that is not seen, U+F000 to U+FFFF: U+FE00 to U+FE0F, U+FEFF, U+FFA0 or U+FFF0
-- to U+FFFB
abbrev pub is_special : ℕ → ℕ → ℕ → Bool
is_special first second third = first == 0xEF
    && ((second == 0xB8 && is_in_range 0x80 0x8F third)
    || (second == 0xBB && third == 0xBF)
    || (second == 0xBE && third == 0xA0)
    || (second == 0xBF && is_in_range 0xB0 0xBB third))

-- four bytes of UTF-8 are a character that is not seen: U+1BCA0 to U+1BCA3, U+1D173 to U+1D17A, or U+E0000 to U+E0FFF
abbrev pub is_hidden_four : ℕ → ℕ → ℕ → ℕ → Bool
is_hidden_four first second third fourth =
    (first == 0xF0 && second == 0x9B && third == 0xB2 && is_in_range 0xA0 0xA3 fourth)
    || (first == 0xF0 && second == 0x9D && third == 0x85 && is_in_range 0xB3 0xBA fourth)
    || (first == 0xF3 && second == 0xA0)

-- the character that four bytes of UTF-8 begin with is a control character, turns others, ends a line or is not seen
abbrev pub is_hidden : Bool → ℕ → ℕ → ℕ → ℕ → Bool
is_hidden keeps_tabs first second third fourth =
    is_control keeps_tabs first
    || is_hidden_pair first second
    || is_format first second third
    || is_special first second third
    || is_hidden_four first second third fourth

-- how many bytes are shown as they are at the start of bytes, of which there are some: those of one character, or 0 if
-- it is hidden or there is none
abbrev pub shown_width : Bool → List ℕ → ℕ
shown_width keeps_tabs bytes =
    if is_hidden keeps_tabs (slice_index bytes 0) (slice_index bytes 1) (slice_index bytes 2) (slice_index bytes 3) then 0
    else width bytes

-- the character of a hexadecimal digit: `0` to `9`, then `a` to `f`
abbrev pub hex_digit : ℕ → ℕ
hex_digit digit = if nat_lt digit 10 then 48 + digit else 87 + digit

-- a byte as it is printed: as it is if it is one of those that are (`kept`, at least 1), otherwise as `\x` and two
-- hexadecimal digits
abbrev pub printed : ℕ → ℕ → List ℕ
printed kept byte =
    if kept == 0 then codes "\\x" ++ hex_digit (byte / 16) ∷ hex_digit (byte % 16) ∷ [] else byte ∷ []

-- how many bytes are shown as they are from here on, if `kept` are left of the character before
abbrev pub kept_at : Bool → ℕ → List ℕ → ℕ
kept_at keeps_tabs kept bytes = if kept == 0 then shown_width keeps_tabs bytes else kept

-- bytes as they are printed, of which the first `kept` are shown as they are
abbrev pub escaped_behind : Bool → ℕ → List ℕ → List ℕ
escaped_behind keeps_tabs kept [] = []
escaped_behind keeps_tabs kept (byte ∷ bytes) = let now = kept_at keeps_tabs kept (byte ∷ bytes) in
    printed now byte ++ escaped_behind keeps_tabs (now - 1) bytes

-- a line as it is shown: each byte that is in no character of UTF-8, or in a hidden one other than the tab, escaped
abbrev pub escaped : List ℕ → List ℕ
escaped bytes = escaped_behind true 0 bytes

-- a name or word as it is shown: as a line, with its tabs escaped
abbrev pub escaped_word : List ℕ → List ℕ
escaped_word bytes = escaped_behind false 0 bytes
