use Rattle.cidr_join.proofs.Known.{rules, [], ◌∷◌, ◌++◌, feed_behind, puts_two, fails_first, puts_it, behind_line, before_line, tail_of}
use Rattle.cidr_join.proofs.printing.print_with.Goals as goal

-- ---- before the line

pub returns-in_err-put_both : goal.returns-in_err-put_both
returns-in_err-put_both g c =
    puts_it c.from_residual.result c.args.output.now c.put_both.new.output _ _ (before_line c.args.last c.args.mark.now
    c.args.line.now c.args.whole.now (feed_behind c.args.end) c.if-not-last.true)
    (fails_first c.from_residual.result c.args.output.now c.put_both.new.output (c.args.mark.now ++ 9 ∷ [])
    (c.args.whole.now ++ feed_behind c.args.end) (search rules) c.in_err-put_both.ensures.failed
    c.in_err-put_both.ensures.beginning)

pub returns-in_err-put : goal.returns-in_err-put
returns-in_err-put g c =
    puts_it c.from_residual-in_err-put.result c.args.output.now c.put.new.self _ _ (before_line c.args.last
    c.args.mark.now c.args.line.now c.args.whole.now (feed_behind c.args.end) c.if-not-last.true)
    (puts_two c.from_residual-in_err-put.result c.args.output.now c.put_both.new.output c.put.new.self
    (c.args.mark.now ++ 9 ∷ []) (c.args.whole.now ++ feed_behind c.args.end) c.in_ok-put_both.ensures.ok
    c.in_ok-put_both.ensures.failed
    (fails_first c.from_residual-in_err-put.result c.put_both.new.output c.put.new.self c.args.whole.now
    (feed_behind c.args.end) (search rules) c.in_err-put.ensures.failed c.in_err-put.ensures.err))

pub returns-then-not-last : goal.returns-then-not-last
returns-then-not-last g c =
    puts_it c.put_feed.result c.args.output.now c.put_feed.new.output _ _ (before_line c.args.last c.args.mark.now
    c.args.line.now c.args.whole.now (feed_behind c.args.end) c.if-not-last.true)
    (puts_two c.put_feed.result c.args.output.now c.put_both.new.output c.put_feed.new.output (c.args.mark.now ++ 9
    ∷ []) (c.args.whole.now ++ feed_behind c.args.end) c.in_ok-put_both.ensures.ok c.in_ok-put_both.ensures.failed
    (puts_two c.put_feed.result c.put_both.new.output c.put.new.self c.put_feed.new.output c.args.whole.now
    (feed_behind c.args.end) c.in_ok-put.ensures.ok c.in_ok-put.ensures.failed c.put_feed.ensures))

-- ---- after the line

pub returns-in_err-put_both-2 : goal.returns-in_err-put_both-2
returns-in_err-put_both-2 g c =
    puts_it c.from_residual-in_err-put_both-2.result c.args.output.now c.put_both-2.new.output _ _
    (behind_line c.args.last c.args.mark.now c.args.line.now c.args.whole.now (feed_behind c.args.end)
    c.if-not-last.false c.requires)
    (fails_first c.from_residual-in_err-put_both-2.result c.args.output.now c.put_both-2.new.output
    (c.args.line.now ++ 9 ∷ []) ((c.args.mark.now ++ tail_of c.args.line.now c.args.whole.now) ++ feed_behind
    c.args.end) (search rules) c.in_err-put_both-2.ensures.failed c.in_err-put_both-2.ensures.beginning)

pub returns-in_err-put_both-3 : goal.returns-in_err-put_both-3
returns-in_err-put_both-3 g c =
    puts_it c.from_residual-in_err-put_both-3.result c.args.output.now c.put_both-3.new.output _ _
    (behind_line c.args.last c.args.mark.now c.args.line.now c.args.whole.now (feed_behind c.args.end)
    c.if-not-last.false c.requires)
    (puts_two c.from_residual-in_err-put_both-3.result c.args.output.now c.put_both-2.new.output c.put_both-3.new.output
    (c.args.line.now ++ 9 ∷ []) ((c.args.mark.now ++ tail_of c.args.line.now c.args.whole.now)
    ++ feed_behind c.args.end) c.in_ok-put_both-2.ensures.ok c.in_ok-put_both-2.ensures.failed
    (fails_first c.from_residual-in_err-put_both-3.result c.put_both-2.new.output c.put_both-3.new.output
    (c.args.mark.now ++ tail_of c.args.line.now c.args.whole.now) (feed_behind c.args.end) (search rules)
    c.in_err-put_both-3.ensures.failed c.in_err-put_both-3.ensures.beginning))

pub returns : goal.returns
returns g c =
    puts_it c.put_feed-2.result c.args.output.now c.put_feed-2.new.output _ _ (behind_line c.args.last c.args.mark.now
    c.args.line.now c.args.whole.now (feed_behind c.args.end) c.if-not-last.false c.requires)
    (puts_two c.put_feed-2.result c.args.output.now c.put_both-2.new.output c.put_feed-2.new.output
    (c.args.line.now ++ 9 ∷ []) ((c.args.mark.now ++ tail_of c.args.line.now c.args.whole.now)
    ++ feed_behind c.args.end) c.in_ok-put_both-2.ensures.ok c.in_ok-put_both-2.ensures.failed
    (puts_two c.put_feed-2.result c.put_both-2.new.output c.put_both-3.new.output c.put_feed-2.new.output
    (c.args.mark.now ++ tail_of c.args.line.now c.args.whole.now) (feed_behind c.args.end)
    c.in_ok-put_both-3.ensures.ok c.in_ok-put_both-3.ensures.failed c.put_feed-2.ensures))
