-- How a run ends that inspects lists.
use Rattle.std.specs.Prelude.{◌==◌, ◌⊎◌, ℕ, Bool, true, false, List, ◌++◌, length, if◌then◌else◌}
use Rattle.std.specs.Prelude.{String}
use Rattle.std.specs.List.{concat}
use Rattle.lines.specs.Outputs.{Written}
use Rattle.lists.specs.declared.rules.Rules.{Rules}
use Rattle.lists.specs.declared.named.ReadFault.{ReadFault}
use Rattle.cidr_merge.specs.Findings.{ends_findings, ends_if, lists_findings}
use Rattle.cidr_merge.specs.Overlaps.{OrderedFindings}
use Rattle.cidr_merge.specs.Repetitions.{found_among}
use Rattle.cidr_merge.specs.Texts.{AreTexts, TextsStop, Whole}
use Rattle.cidr_merge.specs.Writing.{EndsSilently, EndsWriting}
use Rattle.cidr_merge.specs.declared.command_line.Inspection.{Inspection}
use Rattle.cidr_merge.specs.declared.command_line.Inspection.TheVariants.{Check, Strict, Overlaps}

-- the exit status: 1 if there is a finding, else 0
abbrev pub findings_status : List (List ℕ) → ℕ
findings_status findings = if length findings == 0 then 0 else 1

-- the findings were written, or the writer failed and took a beginning of them
abbrev pub TellsAll : {W : Type 0} → List (List ℕ) → Written W → Written W → ℕ → Type 0
TellsAll findings old new status = EndsWriting old new status (concat findings) (findings_status findings)

-- the findings for the lines and then for the ends of lists of these names and bytes, by these rules, were written
abbrev pub EndsChecking : {Z W : Type 0} → Rules → List (String Z) → List (List ℕ) → Written W → Written W → ℕ
    → Type 0
EndsChecking rules names texts old new status =
    TellsAll (lists_findings rules false names texts ++ ends_findings rules names texts) old new status

-- the findings for the lines, strictly or not, those for the ends if strictly, and then those for the entries in order
-- were written, or memory ran out before anything was written
abbrev pub EndsOrdered : {Z W : Type 0} → Bool → Rules → List (String Z) → List (List ℕ) → Written W → Written W → ℕ
    → Type 0
EndsOrdered strictly rules names texts old new status = EndsSilently old new status
    ⊎ ((more : List (List ℕ)) × OrderedFindings (found_among strictly names) rules texts more
    × TellsAll (lists_findings rules strictly names texts ++ (ends_if strictly rules names texts ++ more)) old new status)

-- the findings of this inspection were written
abbrev pub EndsFinding : {Z W : Type 0} → Inspection → Rules → List (String Z) → List (List ℕ) → Written W → Written W
    → ℕ → Type 0
EndsFinding Check rules names texts old new status = EndsChecking rules names texts old new status
EndsFinding Strict rules names texts old new status = EndsOrdered true rules names texts old new status
EndsFinding Overlaps rules names texts old new status = EndsOrdered false rules names texts old new status

-- lists were inspected by these rules: one could not be read, so nothing was written; or all were read
abbrev pub EndsInspecting : {Z W : Type 0} → Whole → Rules → List (String Z) → Inspection → Written W → Written W → ℕ
    → Type 0
EndsInspecting lists rules words inspection old new status =
    ((fault : ReadFault) × TextsStop lists words fault × EndsSilently old new status)
    ⊎ ((texts : List (List ℕ)) × AreTexts lists words texts × EndsFinding inspection rules words texts old new status)
