use Rattle.cidr.proofs.Known.{routes_of, two_words_request, plain_reply}
use Rattle.cidr.proofs.dispatch.answer_two.Goals as goal

pub returns-else-is_add : goal.returns-else-is_add
unfolding two_words_request
returns-else-is_add c =
    rw (← c.is_has.ensures, c.if-is_has.false, ← c.is_rel.ensures, c.if-is_rel.false)
    (rw (← c.is_has4.ensures, c.if-is_has4.false, ← c.is_add.ensures, c.if-is_add.false)
    (plain_reply (routes_of c.args.routes.now) _ _ _ c.reply.ensures))
