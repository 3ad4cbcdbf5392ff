use Rattle.cidr_merge.proofs.Known.{inr, map, as_many_held, whole}
use Rattle.cidr_merge.proofs.inspecting.inspect.Goals as goal

pub look_over-requires : goal.look_over-requires
look_over-requires g c =
    as_many_held (whole (g.L.OpenLists.known c.args.context.now.lists.now) c.args.rules.is_whole) _ c.in-Ok.texts.items
    (λ text. text.items) _ c.as_slice-texts.ensures.value c.in-Ok.ensures.ok

pub returns : goal.returns
returns g c = inr (
  map (λ text. text.items) c.in-Ok.texts.items,
  c.in-Ok.ensures.ok,
  rw c.as_slice-texts.ensures.value at c.look_over.ensures,
)
