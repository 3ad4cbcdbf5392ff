use Rattle.cidr_merge.proofs.Known.{ℕ, List, ◌++◌, rules, subst, FailsIn, Prints, element, printed_more, fails_at}
use Rattle.cidr_merge.proofs.exporting.print_following.Goals as goal

pub loop-block-preserved : goal.loop-block-preserved
loop-block-preserved g c =
    printed_more _ _ _ _ _ _ _ _ c.loop-block.invariant c.in-Some.ensures.step
    (subst (λ (t : List ℕ). Prints c.loop-block.output c.print_after.new.output
    (t ++ element c.args.names.now c.args.export c.args.version g.A.Address.family c.in-Some.block))
    c.around_blocks.ensures.between c.in_ok-print_after.ensures.ok)
    c.in_ok-print_after.ensures.failed

pub returns-in_err-print_after : goal.returns-in_err-print_after
returns-in_err-print_after g c =
    fails_at _ _ _ _ _ _ c.print_after.new.output _ _ (search rules) c.loop-block.invariant
    c.in-Some.ensures.step c.in_err-print_after.ensures.failed
    (subst (λ (t : List ℕ). FailsIn c.loop-block.output c.print_after.new.output
    (t ++ element c.args.names.now c.args.export c.args.version g.A.Address.family c.in-Some.block))
    c.around_blocks.ensures.between c.in_err-print_after.ensures.beginning)
