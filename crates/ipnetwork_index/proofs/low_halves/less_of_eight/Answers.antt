use Rattle.ipnetwork_index.proofs.Known.{arith, length-chunk, marks_are, few_marks, run_of_less}
use Rattle.ipnetwork_index.proofs.low_halves.less_of_eight.Goals as goal
use lib.Lanes.{chunk}

pub overflow_add-ended : goal.overflow_add-ended
overflow_add-ended c =
    let lows = c.args.lows.now in
    let at = c.args.at in
    let size = length-chunk at 8 lows c.requires in
    let few = few_marks lows at c.args.low _ c.requires
    (marks_are (chunk at 8 lows) 8 c.args.low size (omega arith)) in
    omega (arith, few)

pub returns : goal.returns
returns c =
    let lows = c.args.lows.now in
    let at = c.args.at in
    let size = length-chunk at 8 lows c.requires in
    run_of_less lows at c.args.low _ c.requires
    (marks_are (chunk at 8 lows) 8 c.args.low size (omega arith))
