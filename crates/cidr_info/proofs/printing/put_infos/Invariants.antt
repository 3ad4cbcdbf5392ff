use Rattle.cidr_info.proofs.Known.{◌≡◌, ℕ, List, ◌++◌, drop, Prints, infos_from, infos_text, networks_in}
use Rattle.cidr_info.proofs.printing.put_infos.Given as goal

-- what was put, and what is printed of the texts that are left, are all
abbrev pub invariant-loop-said : goal.invariant-loop-said
invariant-loop-said g l = (done : List ℕ) × Prints l.initial.output l.output done
    × (l.output.failed ≡ l.initial.output.failed)
    × (done ++ infos_from l.is_first l.form (networks_in (drop l.said-index l.all)) ≡ infos_text l.form
    (networks_in l.all))
