-- The byte order mark that a log may begin with.
use Rattle.std.specs.Prelude.{ℕ, ◌==◌, List, [], ◌∷◌, drop, if◌then◌else◌}
use Rattle.lists.specs.Encodings.{begins}

-- what comes after the byte order mark of UTF-8 (EF BB BF) that a text begins with, or the whole text if it begins with
-- none
abbrev pub behind_mark : List ℕ → List ℕ
behind_mark text = if begins (239 ∷ 187 ∷ 191 ∷ []) text then drop 3 text else text

-- the part of a line in which addresses are looked for, if so many lines of its log come before it: in the first line,
-- what comes after a byte order mark; else the line
abbrev pub judged : ℕ → List ℕ → List ℕ
judged before line = if before == 0 then behind_mark line else line
