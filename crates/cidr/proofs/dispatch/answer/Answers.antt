use Rattle.cidr.proofs.Known.{drop, take_rest, routes_of, one_word_line, two_word_line, three_word_line, longer_line, plain_reply, replies_as}
use Rattle.cidr.proofs.dispatch.answer.Goals as goal

pub returns-in_default : goal.returns-in_default
returns-in_default c =
    let routes = routes_of c.args.routes.now in
    replies_as routes routes _ _ _ _ (one_word_line c.args.line.now c.in_default.ensures)
    (plain_reply routes _ _ _ c.reply.ensures)

pub returns-in_default-cut_word : goal.returns-in_default-cut_word
returns-in_default-cut_word c =
    replies_as (routes_of c.args.routes.now) (routes_of c.answer_one.new.routes) _ _ _ _
    (two_word_line c.args.line.now _ _ c.in-Some.ensures.cut c.in_default-cut_word.ensures)
    (rw take_rest at c.answer_one.ensures)

pub returns-in-None : goal.returns-in-None
returns-in-None c =
    replies_as (routes_of c.args.routes.now) (routes_of c.answer_two.new.routes) _ _ _ _
    (three_word_line c.args.line.now _ (drop c.in-Some.first_at c.args.line.now) _ _ c.in-Some.ensures.cut
    c.in-Some-cut_word.ensures.cut c.in-None.ensures)
    (rw take_rest at c.answer_two.ensures)

pub returns-in-Some-cut_word-2 : goal.returns-in-Some-cut_word-2
returns-in-Some-cut_word-2 c =
    let routes = routes_of c.args.routes.now in
    replies_as routes routes _ _ _ _
    (longer_line c.args.line.now _ (drop c.in-Some.first_at c.args.line.now) _
    (drop c.in-Some-cut_word.second_at c.args.line.now) _
    (drop c.in-Some-cut_word-2.field-0.1 c.args.line.now) c.in-Some.ensures.cut c.in-Some-cut_word.ensures.cut
    c.in-Some-cut_word-2.ensures.cut)
    (plain_reply routes _ _ _ c.reply-in-Some-cut_word-2.ensures)
