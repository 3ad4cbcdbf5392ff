-- Texts that look like an entry, so that one that names none is a mistake.
use Rattle.std.specs.Prelude.{ℕ, ◌==◌, ◌||◌, ◌&&◌, Bool, false, not, List, [], ◌∷◌, length, nat_lt, take, drop}
use Rattle.std.specs.Char.{is_ascii_digit, is_ascii_hexdigit}
use Rattle.std.specs.List.{after_first, before_first, count_by, list_all, prefix_len}
use Rattle.lists.specs.Entries.{is_dash}
use Rattle.lists.specs.Lines.{trimmed, trimmed_by}

-- the byte is a `.` (46), a `:` (58), a `/` (47)
abbrev pub is_dot : ℕ → Bool
is_dot byte = byte == 46

abbrev pub is_colon : ℕ → Bool
is_colon byte = byte == 58

abbrev pub is_slash : ℕ → Bool
is_slash byte = byte == 47

-- the text is a number: digits, one or more
abbrev pub is_number : List ℕ → Bool
is_number text = nat_lt 0 (length text) && list_all is_ascii_digit text

-- the text is two, three or four numbers joined by dots
abbrev pub are_two_numbers : List ℕ → Bool
are_two_numbers text = is_number (before_first is_dot text) && is_number (after_first is_dot text)

abbrev pub are_three_numbers : List ℕ → Bool
are_three_numbers text = is_number (before_first is_dot text) && are_two_numbers (after_first is_dot text)

abbrev pub are_four_numbers : List ℕ → Bool
are_four_numbers text = is_number (before_first is_dot text) && are_three_numbers (after_first is_dot text)

-- the byte is a hex digit, `.` or `:`
abbrev pub is_address_byte : ℕ → Bool
is_address_byte byte = is_ascii_hexdigit byte || is_dot byte || is_colon byte

-- the text has a `:` directly after another
abbrev pub begins_colon : List ℕ → Bool
begins_colon [] = false
begins_colon (byte ∷ text) = is_colon byte

abbrev pub has_gap : List ℕ → Bool
has_gap [] = false
has_gap (byte ∷ text) = (is_colon byte && begins_colon text) || has_gap text

-- how often the byte is in the text
abbrev pub count_of : ℕ → List ℕ → ℕ
count_of byte text = count_by (λ other. other == byte) text

-- the text has the separators of an IPv6 address that is spelled in full: seven `:` (58), or six and, if it ends as an
-- IPv4 address, three `.` (46)
abbrev pub has_all_groups : List ℕ → Bool
has_all_groups text = count_of 58 text == 7 || (count_of 58 text == 6 && count_of 46 text == 3)

-- the text looks like an address: it is four numbers joined by dots, or hex digits, `.` and `:` with a `::` or with the
-- separators of an IPv6 address that is spelled in full
abbrev pub looks_like_address : List ℕ → Bool
looks_like_address text = are_four_numbers text || (list_all is_address_byte text && (has_gap text || has_all_groups text))

-- what comes before the first `/` of the text, or the whole text, without the blanks around the text, looks like one
abbrev pub looks_like_network : List ℕ → Bool
looks_like_network text = looks_like_address (before_first is_slash (trimmed text))

-- the text looks like a network, or both sides of its first `-` do
abbrev pub looks_like_one : List ℕ → Bool
looks_like_one text = looks_like_network text
    || (looks_like_network (before_first is_dash text) && looks_like_network (after_first is_dash text))

-- the byte separates entries: it is not visible ASCII (a blank, an end of a line, or one of the bytes of U+00A0 or of a
-- byte order mark), or it is a `,` (44) or a `;` (59)
abbrev pub is_separator : ℕ → Bool
is_separator byte = nat_lt byte 33 || nat_lt 126 byte || byte == 44 || byte == 59

-- the byte is one of those between separators
abbrev pub is_joined : ℕ → Bool
is_joined byte = not (is_separator byte)

-- what comes before the first separator of a text, and what comes from it on
abbrev pub first_part : List ℕ → List ℕ
first_part text = take (prefix_len is_joined text) text

abbrev pub other_parts : List ℕ → List ℕ
other_parts text = drop (prefix_len is_joined text) text

-- the byte may be in entries or separates them
abbrev pub is_entry_byte : ℕ → Bool
is_entry_byte byte = is_address_byte byte || is_slash byte || is_dash byte || is_separator byte

-- the first part of the text looks like an entry, and no other byte is in the others
abbrev pub looks_like_some : List ℕ → Bool
looks_like_some text = looks_like_one (first_part text) && list_all is_entry_byte (other_parts text)

-- the text looks like an entry, or like entries
abbrev pub looks_like_any : List ℕ → Bool
looks_like_any text = looks_like_one text || looks_like_some text

-- the text without the separators around it looks so
abbrev pub looks_like_entry : List ℕ → Bool
looks_like_entry text = looks_like_any (trimmed_by is_separator text)
