use Rattle.ipnetwork_c.proofs.Known.{map, refl, arith, length-map, read_pair, next_told, none_next}
use Rattle.ipnetwork_c.proofs.upper_bound.next_is_after.Goals as goal

pub returns-then-at-list : goal.returns-then-at-list
returns-then-at-list g c = (
  (λ _. none_next g.H.HoldsNetwork.held c.args.list.now (g.H.Numbered.value c.args.number) c.args.at (omega arith)),
  (λ _. refl),
)

pub returns : goal.returns
returns g c =
    let held = g.H.HoldsNetwork.held in
    let list = c.args.list.now in
    let size = length-map list held in
    next_told (map held list) (g.H.Numbered.value c.args.number) c.args.at (held c.index-list-at.result)
    c.begins_up_to.result (omega arith)
    (read_pair held list c.args.at c.index-list-at.result (omega arith) c.index-list-at.is) c.begins_up_to.ensures
