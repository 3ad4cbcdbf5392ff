-- A text put into a buffer.
use Rattle.std.specs.Prelude.{Bool, true, false, ◌≡◌, ℕ, ◌<◌, ◌≤◌, List, length}
use Rattle.ipnetwork_c.specs.Answers.{StandsIn}

-- `true` if the text is put into the buffer, which happens exactly if there is room for it and the zero byte
abbrev pub CopiesText : List ℕ → List ℕ → List ℕ → Bool → Type 0
CopiesText text before after true = (length text < length before) × StandsIn text before after
CopiesText text before after false = (length before ≤ length text) × (after ≡ before)
