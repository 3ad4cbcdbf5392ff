-- A line, cut at its first blank.
use Rattle.std.specs.Prelude.{◌≡◌, ℕ, ◌≤◌, List, [], ◌∷◌, length, drop}
use Rattle.cidr.specs.Words.{words}

-- the line is one word
abbrev pub IsLastWord : List ℕ → Type 0
IsLastWord line = words line ≡ line ∷ []

-- the line is a word, a blank and the rest
abbrev pub IsWordBefore : List ℕ → List ℕ → List ℕ → Type 0
IsWordBefore line word rest = words line ≡ word ∷ words rest

-- from the position `from` on, the line is a word, a blank, and what begins at the position `next`
pub record IsCut (line : List ℕ) (from : ℕ) (word : List ℕ) (next : ℕ) : Type 0 where
  pub cut : IsWordBefore (drop from line) word (drop next line)
  pub within : next ≤ length line
