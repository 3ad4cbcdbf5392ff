-- A line without its comment and the blanks around it.
use Rattle.std.specs.Prelude.{ℕ, ◌-◌, ◌==◌, ◌||◌, Bool, List, length, take, drop}
use Rattle.std.specs.List.{before_first, position_or_len, prefix_len, suffix_len}

-- the byte is a space (32) or a tab (9)
abbrev pub is_blank : ℕ → Bool
is_blank byte = byte == 32 || byte == 9

-- the byte is `#` (35) or `;` (59), which begins a comment
abbrev pub begins_comment : ℕ → Bool
begins_comment byte = byte == 35 || byte == 59

-- what comes before the first `#` or `;` of a line, or the whole line if it has neither
abbrev pub before_comment : List ℕ → List ℕ
before_comment line = before_first begins_comment line

-- the byte is a blank or begins a comment
abbrev pub is_gap : ℕ → Bool
is_gap byte = is_blank byte || begins_comment byte

-- the text without the bytes of this kind that it begins with
abbrev pub without_front : (ℕ → Bool) → List ℕ → List ℕ
without_front is_one text = drop (prefix_len is_one text) text

-- the text without the bytes of this kind that it ends with
abbrev pub without_end : (ℕ → Bool) → List ℕ → List ℕ
without_end is_one text = take (length text - suffix_len is_one text) text

-- the text without the bytes of this kind around it
abbrev pub trimmed_by : (ℕ → Bool) → List ℕ → List ℕ
trimmed_by is_one text = without_end is_one (without_front is_one text)

-- the text without the blanks around it
abbrev pub trimmed : List ℕ → List ℕ
trimmed text = trimmed_by is_blank text

-- what comes from the first `#` or `;` of a line on, or nothing if it has neither
abbrev pub comment_of : List ℕ → List ℕ
comment_of line = drop (position_or_len begins_comment line) line

-- the first words of a comment: what follows its marks and blanks, up to the next mark, without the blanks around it
abbrev pub comment_text : List ℕ → List ℕ
comment_text line = trimmed (before_comment (without_front is_gap (comment_of line)))
