use Rattle.cidr.proofs.Known.{ap, ap₂, sym, routes_of, Add, adding, route_number_of, plain_reply, reply_with, replies_as, number_is, number_is_none}
use Rattle.cidr.proofs.commands.routing.add.Goals as goal

pub returns-in_default : goal.returns-in_default
returns-in_default c =
    replies_as (routes_of c.args.routes.now) (routes_of c.args.routes.now) _ _ _ _
    (ap (λ n. adding n (route_number_of c.args.number.now)) (sym c.in_default.ensures))
    (plain_reply (routes_of c.args.routes.now) _ _ _ c.reply.ensures)

pub returns-in_default-read_number : goal.returns-in_default-read_number
returns-in_default-read_number c =
    replies_as (routes_of c.args.routes.now) (routes_of c.args.routes.now) _ _ _ _
    (ap₂ adding (sym c.in-Ok.ensures)
    (number_is_none c.prefix_number_is_computed.ensures c.args.number.now c.in_default-read_number.ensures))
    (plain_reply (routes_of c.args.routes.now) _ _ _ c.reply-in_default-read_number.ensures)

pub returns : goal.returns
returns c =
    let number = number_is c.prefix_number_is_computed.ensures c.args.number.now c.in-Some.number c.in-Some.ensures.0
    c.in-Some.ensures.1 in
    replies_as (routes_of c.args.routes.now) (routes_of c.insert.new.routes) _ _ _ _
    (ap₂ adding (sym c.in-Ok.ensures) number)
    (reply_with (routes_of c.args.routes.now) (routes_of c.insert.new.routes) (Add c.in-Ok.network c.in-Some.number) _ _
    _ c.insert.ensures.text c.reply-2.ensures)
