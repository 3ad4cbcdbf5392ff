-- The sides of a command line.
use Rattle.std.specs.Prelude.{◌+◌, List, take, drop, codes, String}
use Rattle.std.specs.List.{position_or_len}
use Rattle.program.specs.Words.{is}

-- the words before the first `--`, and those after it
abbrev pub before_dashes : {Z : Type 0} → List (String Z) → List (String Z)
before_dashes words = take (position_or_len (is (codes "--")) words) words

abbrev pub behind_dashes : {Z : Type 0} → List (String Z) → List (String Z)
behind_dashes words = drop (position_or_len (is (codes "--")) words + 1) words
