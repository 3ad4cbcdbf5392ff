use Rattle.cidr_merge.proofs.Known.{rules, puts_more, fails_first, puts_two, finished, puts_badly, unfinished}
use Rattle.cidr_merge.proofs.split.write_split.Goals as goal

pub returns-in_err-print_pieces : goal.returns-in_err-print_pieces
returns-in_err-print_pieces g c =
    unfinished _ c.args.output.now c.print_pieces.new.output _ (search rules)
    (fails_first _ c.args.output.now c.print_pieces.new.output _ _ (search rules)
    c.in_err-print_pieces.ensures.failed c.in_err-print_pieces.ensures.beginning)

pub returns-in_err-print_pieces-2 : goal.returns-in_err-print_pieces-2
returns-in_err-print_pieces-2 g c =
    unfinished _ c.args.output.now c.print_pieces-2.new.output _ (search rules)
    (puts_two _ c.args.output.now c.print_pieces.new.output c.print_pieces-2.new.output _ _
    c.in_ok-print_pieces.ensures.ok c.in_ok-print_pieces.ensures.failed
    (puts_badly _ c.print_pieces.new.output c.print_pieces-2.new.output _ (search rules)
    c.in_err-print_pieces-2.ensures.failed c.in_err-print_pieces-2.ensures.beginning))

pub returns : goal.returns
returns g c =
    finished c.finish.result c.args.output.now c.print_pieces-2.new.output c.finish.new.self _
    (puts_more _ _ _ _ _ _ _ _ c.in_ok-print_pieces.ensures.ok c.in_ok-print_pieces-2.ensures.ok)
    c.finish.ensures.ok c.finish.ensures.err c.finish.ensures.failed
