use Rattle.cidr_info.proofs.Known.{◌≡◌, ℕ, List, ◌++◌, drop, flat_map, Prints, fields, row_text, info_text}
use Rattle.cidr_info.proofs.printing.put_rows.Given as goal

-- what was put, and the rows that are left, are all
abbrev pub invariant-loop-field : goal.invariant-loop-field
invariant-loop-field g l = (done : List ℕ) × Prints l.initial.output l.output done
    × (l.output.failed ≡ l.initial.output.failed)
    × (done ++ flat_map (row_text l.form l.network) (drop l.field-index fields) ≡ info_text l.form l.network)
