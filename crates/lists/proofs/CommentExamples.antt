-- What each of the 256 bytes does at the beginning, in the middle and at the end of a line of a list. Each of these
-- computes.
use Rattle.lists.proofs.Words.{◌≡◌, ◌∷◌, ◌++◌, [], ℕ, List, refl, codes, bytes_eq, filter, range_with_len, comment_text, entry_text, is_blank, is_gap, begins_comment, map}

abbrev bytes : List ℕ
bytes = range_with_len 0 256

-- a tab and a space are blanks; a `#` and a `;` begin a comment
pub blanks : filter is_blank bytes ≡ 9 ∷ 32 ∷ []
blanks = refl

pub comments : filter begins_comment bytes ≡ 35 ∷ 59 ∷ []
comments = refl

-- the bytes before a text of which nothing is left, and those of which the text alone is left
pub skipped_lines : filter (λ byte. bytes_eq (entry_text (byte ∷ codes "::1")) []) bytes ≡ 35 ∷ 59 ∷ []
skipped_lines = refl

pub skipped_in_front : filter (λ byte. bytes_eq (entry_text (byte ∷ codes "::1")) (codes "::1")) bytes ≡ 9 ∷ 32 ∷ []
skipped_in_front = refl

-- the bytes after a text of which the text alone is left, with and without others after them
pub skipped_at_the_end : filter (λ byte. bytes_eq (entry_text (codes "::1" ++ byte ∷ [])) (codes "::1")) bytes
    ≡ 9 ∷ 32 ∷ 35 ∷ 59 ∷ []
skipped_at_the_end = refl

pub skipped_with_more : filter (λ byte. bytes_eq (entry_text (codes "::1" ++ byte ∷ codes "x")) (codes "::1")) bytes
    ≡ 35 ∷ 59 ∷ []
skipped_with_more = refl

-- a comment's first words: after its marks and blanks, up to the next mark
pub gaps : filter is_gap bytes ≡ 9 ∷ 32 ∷ 35 ∷ 59 ∷ []
gaps = refl

pub first_words_of_comments :
    map comment_text (codes "::1; ::2 # x" ∷ codes "::1 #;\t::2" ∷ codes "::1 # a b" ∷ codes "::1" ∷ codes "::1;#" ∷ [])
    ≡ codes "::2" ∷ codes "::2" ∷ codes "a b" ∷ [] ∷ [] ∷ []
first_words_of_comments = refl
