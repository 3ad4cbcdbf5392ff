use Rattle.cidr_join.proofs.Known.{◌∙◌, ◌++◌, ◌∷◌, [], List, ap, Found, Nothing, routes_numbered}
use Rattle.cidr_join.proofs.value_ids.number_routes.Goals as goal

pub returns : goal.returns
returns c =
    routes_numbered c.args.network c.args.routes.now _ c.table.result.now c.table-2.result.now c.put.new.items.items
    c.number_each.new.founds.items c.table.ensures c.table-2.ensures
    (c.in_ok-put.ensures ∙ ap (λ (f : List Found). f ++ Nothing ∷ []) c.new-founds.ensures.items) c.in_ok-v4.ensures
    c.in_ok-v6.ensures
