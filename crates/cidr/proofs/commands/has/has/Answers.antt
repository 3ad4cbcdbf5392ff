use Rattle.cidr.proofs.Known.{cond, codes, ap, refl, has_answer, adds, same_test}
use Rattle.cidr.proofs.commands.has.has.Goals as goal

pub returns-in_default : goal.returns-in_default
unfolding has_answer
returns-in_default c =
    adds _ _ (codes "refused network") (has_answer c.args.network.now c.args.address.now) c.reply.ensures
    (rw (← c.in_default.ensures) refl)

pub returns : goal.returns
unfolding has_answer
returns c =
    let tested = same_test _ _ _ c.contains.ensures
    (c.ip_membership_is_computed.ensures c.in-Ok.network c.in-Some.address) in
    adds _ _ (cond c.contains.result (codes "yes") (codes "no")) (has_answer c.args.network.now c.args.address.now)
    c.reply_whether.ensures
    (rw (← c.in-Ok.ensures, ← c.in-Some.ensures) (ap (λ b. cond b (codes "yes") (codes "no")) tested))
