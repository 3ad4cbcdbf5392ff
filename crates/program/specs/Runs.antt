-- What a program prints about itself.
use Rattle.std.specs.Prelude.{ℕ, List, Option, None, Some, MatchOption, ◌||◌, if◌then◌else◌, codes, String}
use Rattle.program.specs.Endings.{Ending, EndsPrinting}
use Rattle.program.specs.Words.{is_only}

-- the text that the only word asks for: the help for `--help` or `-h`, the version for `--version`
abbrev pub text_asked : {Z : Type 0} → List ℕ → List ℕ → List (String Z) → Option (List ℕ)
text_asked help version words =
    if is_only (codes "--help") words || is_only (codes "-h") words then Some help
    else if is_only (codes "--version") words then Some version
    else None

-- the run printed the help or the version if the only word asks for it; otherwise `Otherwise` holds
abbrev pub EndsRun : {Z W E : Type 0} → List ℕ → List ℕ → List (String Z) → Type 0 → Ending W E → Type 0
EndsRun help version words Otherwise end =
    MatchOption (text_asked help version words) Otherwise (λ text. EndsPrinting text end)
