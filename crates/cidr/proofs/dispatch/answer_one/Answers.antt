use Rattle.cidr.proofs.Known.{routes_of, one_word_request, plain_reply}
use Rattle.cidr.proofs.dispatch.answer_one.Goals as goal

pub returns-else-is_find : goal.returns-else-is_find
unfolding one_word_request
returns-else-is_find c =
    rw (← c.is_read.ensures, c.if-is_read.false, ← c.is_ends.ensures, c.if-is_ends.false)
    (rw (← c.is_read4.ensures, c.if-is_read4.false, ← c.is_read6.ensures, c.if-is_read6.false)
    (rw (← c.is_drop.ensures, c.if-is_drop.false, ← c.is_find.ensures, c.if-is_find.false)
    (plain_reply (routes_of c.args.routes.now) _ _ _ c.reply.ensures)))
