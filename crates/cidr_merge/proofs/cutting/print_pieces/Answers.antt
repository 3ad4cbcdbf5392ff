use Rattle.cidr_merge.proofs.Known.{rules, printed_more, fails_at}
use Rattle.cidr_merge.proofs.cutting.print_pieces.Goals as goal

pub loop-block-preserved : goal.loop-block-preserved
loop-block-preserved g c =
    printed_more _ _ _ _ _ _ _ _ c.loop-block.invariant c.in-Some.ensures.steps
    c.in_ok-print_block.ensures.ok c.in_ok-print_block.ensures.failed

pub returns-in_err-print_block : goal.returns-in_err-print_block
returns-in_err-print_block g c =
    fails_at _ _ _ _ _ _ c.print_block.new.output _ _ (search rules) c.loop-block.invariant
    c.in-Some.ensures.steps c.in_err-print_block.ensures.failed c.in_err-print_block.ensures.beginning
