use Rattle.cidr_merge.proofs.Known.{rules, printed_more, fails_at}
use Rattle.cidr_merge.proofs.free.print_blocks.Goals as goal

pub loop-block-preserved : goal.loop-block-preserved
loop-block-preserved g c =
    printed_more _ _ _ _ _ _ _ _ c.loop-block.invariant c.in-Some.ensures.steps
    c.in_ok-put_network.ensures.ok c.in_ok-put_network.ensures.failed

pub returns-in_err-put_network : goal.returns-in_err-put_network
returns-in_err-put_network g c =
    fails_at _ _ _ _ _ _ c.put_network.new.output _ _ (search rules) c.loop-block.invariant
    c.in-Some.ensures.steps c.in_err-put_network.ensures.failed c.in_err-put_network.ensures.beginning
