-- The comments of a list: lines, what is directly after a network, and values that begin as one.
use Rattle.std.specs.Prelude.{◌≡◌, ◌==◌, ◌||◌, ℕ, Bool, true, List, [], ◌∷◌, length, Some, Ok, if◌then◌else◌}
use Rattle.lists.specs.Entries.{ReadsEntry}
use Rattle.lists.specs.Lines.{before_comment, begins_comment, is_gap, without_front}
use Rattle.lists.specs.declared.entry.Entry.{Entry}

-- a text without blanks around it is empty or a comment: it begins with `#` or `;`
abbrev pub is_skipped : List ℕ → Bool
is_skipped [] = true
is_skipped (byte ∷ rest) = byte == 35 || byte == 59

-- the length of a text that begins with `#` or `;`; 0 if it does not
abbrev pub comment_len : List ℕ → ℕ
comment_len [] = 0
comment_len (byte ∷ rest) = if begins_comment byte then length (byte ∷ rest) else 0

-- the first words of the comment that a text begins with: what follows its marks and blanks, up to the next mark
abbrev pub comment_words : List ℕ → List ℕ
comment_words text = before_comment (without_front is_gap text)

-- a value begins with `#` or `;`, and the first words of this comment are an entry, read as a line of a list of networks
abbrev pub HasEntry : List ℕ → Type 0
HasEntry value = (is_skipped value ≡ true)
    × ((entry : Entry) × ReadsEntry (comment_words value) (Ok (Some entry)))

abbrev pub HasNoEntry : List ℕ → Type 0
HasNoEntry value = ¬ (HasEntry value)
