use Rattle.cidr.proofs.Known.{None, inl, refl, ap, sym, routes_of, finding, plain_reply, replies_as}
use Rattle.cidr.proofs.commands.routing.find.Goals as goal

pub returns-in_default : goal.returns-in_default
returns-in_default c =
    replies_as (routes_of c.args.routes.now) (routes_of c.args.routes.now) _ _ _ _
    (ap finding (sym c.in_default.ensures))
    (plain_reply (routes_of c.args.routes.now) _ _ _ c.reply.ensures)

pub returns-in_default-find : goal.returns-in_default-find
returns-in_default-find c =
    replies_as (routes_of c.args.routes.now) (routes_of c.args.routes.now) _ _ _ _ (ap finding (sym c.in-Some.ensures))
    (_, inl ((None, c.in_default-find.ensures, refl), refl), c.reply-in_default-find.ensures)
