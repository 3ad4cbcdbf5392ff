-- The address that an IPv6 text names, computed by trying each way of splitting the text.
use Rattle.std.specs.Prelude.{ℕ, zero, suc, ◌+◌, ◌-◌, ◌^◌, ◌==◌, nat_lt, nat_le, bytes_eq, if◌then◌else◌, List, [], ◌∷◌}
use Rattle.std.specs.Prelude.{◌++◌, length, take, drop, replicate, codes, Option, None, Some}
use Rattle.std.specs.List.{slice_split, list_all}
use Rattle.std.specs.Char.{is_digit}
use Rattle.std.specs.Int.Digits.{number_from_digits}
use Rattle.std.specs.Str.Parse.{digits_value}
use Rattle.ipnetwork_addr.specs.Computed.Ipv4Text.{v4_of}
use Rattle.ipnetwork_addr.specs.Ipv6Text.{two_groups}
use Rattle.ipnetwork_addr.specs.Texts.{colon}

-- the first value if there is one, else the other
abbrev pub or_else : Option ℕ → Option ℕ → Option ℕ
or_else (Some x) other = Some x
or_else None other = other

-- the value of a group: one to four hex digits
abbrev pub group_of : List ℕ → Option ℕ
group_of text =
    if nat_lt 0 (length text) then (if nat_le (length text) 4
    then (if list_all (λ byte. is_digit byte 16) text then Some (digits_value 16 text) else None) else None) else None

-- the groups with one more in front
abbrev pub grouped : Option ℕ → Option (List ℕ) → Option (List ℕ)
grouped (Some group) (Some groups) = Some (group ∷ groups)
grouped (Some group) None = None
grouped None groups = None

-- the groups that the parts spell
abbrev pub groups_of : List (List ℕ) → Option (List ℕ)
groups_of [] = Some []
groups_of (part ∷ parts) = grouped (group_of part) (groups_of parts)

-- the two groups of an IPv4 address
abbrev pub two_groups_of : Option ℕ → Option (List ℕ)
two_groups_of None = None
two_groups_of (Some address) = Some (two_groups address)

-- the groups that the parts spell, if the last part is an IPv4 text
abbrev pub dotted_groups_of : List (List ℕ) → Option (List ℕ)
dotted_groups_of [] = None
dotted_groups_of (part ∷ []) = two_groups_of (v4_of part)
dotted_groups_of (part ∷ next ∷ parts) = grouped (group_of part) (dotted_groups_of (next ∷ parts))

-- the parts between the colons
abbrev pub colon_parts : List ℕ → List (List ℕ)
colon_parts text = slice_split (λ byte. byte == colon) text

-- the groups of a text that is groups joined by colons, or empty
abbrev pub plain_of : List ℕ → Option (List ℕ)
plain_of [] = Some []
plain_of (byte ∷ text) = groups_of (colon_parts (byte ∷ text))

-- the groups of a text that is groups followed by an IPv4 text, all joined by colons
abbrev pub dotted_of : List ℕ → Option (List ℕ)
dotted_of text = dotted_groups_of (colon_parts text)

-- the number of the groups, if there are eight
abbrev pub full_number : Option (List ℕ) → Option ℕ
full_number None = None
full_number (Some groups) = if length groups == 8 then Some (number_from_digits (2 ^ 16) groups) else None

-- the number of the groups on both sides of a `::`, at most seven, with the missing zero groups between them
abbrev pub gap_number : Option (List ℕ) → Option (List ℕ) → Option ℕ
gap_number None right = None
gap_number (Some left) None = None
gap_number (Some left) (Some right) =
    if nat_le (length left + length right) 7
    then Some (number_from_digits (2 ^ 16) (left ++ replicate (8 - length left - length right) 0 ++ right))
    else None

-- the number that the text names with a `::` after this many bytes
abbrev pub gap_at : List ℕ → ℕ → Option ℕ
gap_at text i =
    if bytes_eq (take 2 (drop i text)) (codes "::")
    then or_else (gap_number (plain_of (take i text)) (plain_of (drop (i + 2) text)))
    (gap_number (plain_of (take i text)) (dotted_of (drop (i + 2) text)))
    else None

-- the number that the text names with a `::` after fewer bytes than this
unfoldable pub gap_below : List ℕ → ℕ → Option ℕ
gap_below text zero = None
gap_below text (suc i) = or_else (gap_at text i) (gap_below text i)

-- the address that a text names, if it names one
unfoldable pub v6_of : List ℕ → Option ℕ
v6_of text = or_else (full_number (plain_of text))
    (or_else (full_number (dotted_of text)) (gap_below text (length text)))
