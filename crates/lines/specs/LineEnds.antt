-- How lines end.
use Rattle.std.specs.Prelude.{ℕ, List, [], ◌∷◌}
use Rattle.lines.specs.declared.line_end.LineEnd.{LineEnd}
use Rattle.lines.specs.declared.line_end.LineEnd.TheVariants.{LineFeed, ReturnAndLineFeed, EndOfInput}

-- the bytes that end a line
abbrev pub end_bytes : LineEnd → List ℕ
end_bytes LineFeed = 10 ∷ []
end_bytes ReturnAndLineFeed = 13 ∷ 10 ∷ []
end_bytes EndOfInput = []
