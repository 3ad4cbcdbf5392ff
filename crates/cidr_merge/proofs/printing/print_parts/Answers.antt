use Rattle.cidr_merge.proofs.Known.{rules, printed_more, all_printed, fails_at}
use Rattle.cidr_merge.proofs.printing.print_parts.Goals as goal

pub loop-next-preserved : goal.loop-next-preserved
loop-next-preserved g c =
    printed_more _ _ _ _ _ _ _ _ c.loop-next.invariant c.in-Some.ensures
    c.in_ok-put.ensures.ok c.in_ok-put.ensures.failed

pub returns-in_err-put : goal.returns-in_err-put
returns-in_err-put g c =
    rw (← c.of-parts.ensures.first, ← c.of-parts.ensures.second)
    (fails_at _ _ _ _ _ _ c.put.new.output _ _ (search rules) c.loop-next.invariant c.in-Some.ensures
    c.in_err-put.ensures.failed c.in_err-put.ensures.beginning)

pub returns : goal.returns
returns g c =
    rw (← c.of-parts.ensures.first, ← c.of-parts.ensures.second)
    (all_printed _ _ _ _ _ _ c.loop-next.invariant c.in_default.ensures)
