-- The words of a command line.
use Rattle.std.specs.Prelude.{ℕ, ◌==◌, ◌&&◌, Bool, false, if◌then◌else◌, List, [], ◌∷◌, length, bytes_eq, String}
use Rattle.std.specs.List.{count_by}
use Rattle.std.specs.String.{string_bytes}

-- the word is this text
abbrev pub is : {Z : Type 0} → List ℕ → String Z → Bool
is text word = bytes_eq (string_bytes word) text

-- how many of the words are this text
abbrev pub count : {Z : Type 0} → List ℕ → List (String Z) → ℕ
count text words = count_by (is text) words

-- there is exactly one word, and it is this text
abbrev pub is_only : {Z : Type 0} → List ℕ → List (String Z) → Bool
is_only text [] = false
is_only text (word ∷ others) = length others == 0 && is text word

-- there is a first word, and it is this text
abbrev pub begins_with : {Z : Type 0} → List ℕ → List (String Z) → Bool
begins_with text [] = false
begins_with text (word ∷ others) = is text word

-- the words without the first one if that is this text, and else all of them
abbrev pub without_first : {Z : Type 0} → List ℕ → List (String Z) → List (String Z)
without_first text [] = []
without_first text (word ∷ others) = if is text word then others else word ∷ others
