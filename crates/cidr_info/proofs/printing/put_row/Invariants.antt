use Rattle.cidr_info.proofs.Known.{◌≡◌, ℕ, List, ◌++◌, ◌+◌, ◌-◌, ◌==◌, flat_map, range_with_len, Prints, row_text, value_text}
use Rattle.cidr_info.proofs.printing.put_row.Given as goal

-- what was put, and the values that are left, are all
abbrev pub invariant-loop-place : goal.invariant-loop-place
invariant-loop-place g l = (done : List ℕ) × Prints l.initial.output l.output done
    × (l.output.failed ≡ l.initial.output.failed)
    × (done ++ flat_map (λ (place : ℕ). value_text l.form l.network l.field place (place + 1 == l.count))
    (range_with_len l.place (l.count - l.place)) ≡ row_text l.form l.network l.field)
