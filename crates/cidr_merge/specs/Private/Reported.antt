-- The output of functions that print findings.
use Rattle.std.specs.Prelude.{ℕ, Bool, List}
use Rattle.std.specs.List.{concat}
use Rattle.lines.specs.Outputs.{Written}
use Rattle.program.specs.Messages.{Reports}
use Rattle.cidr_merge.specs.Findings.{IsFound}

-- these lines were added to the output, and the Boolean says whether there is one
abbrev pub TellsFound : {W : Type 0} → List (List ℕ) → Written W → Written W → Bool → Type 0
TellsFound found output output_after is_found =
    Reports output output_after (concat found) × IsFound found is_found
