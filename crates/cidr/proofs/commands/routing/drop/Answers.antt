use Rattle.cidr.proofs.Known.{ap, sym, routes_of, dropping, plain_reply, replies_as}
use Rattle.cidr.proofs.commands.routing.drop.Goals as goal

pub returns-in-Err : goal.returns-in-Err
returns-in-Err c =
    replies_as (routes_of c.args.routes.now) (routes_of c.args.routes.now) _ _ _ _ (ap dropping (sym c.in-Err.ensures))
    (plain_reply (routes_of c.args.routes.now) _ _ _ c.reply-in-Err.ensures)
