use Rattle.ipnetwork_c.proofs.Known.{map, arith, length-map, ends_at}
use Rattle.ipnetwork_c.proofs.upper_bound.upper_bound_at_once.Goals as goal

pub returns : goal.returns
returns g c =
    let held = g.H.HoldsNetwork.held in
    let list = c.args.list.now in
    let size = length-map list held in
    ends_at (map held list) (g.H.Numbered.value c.args.number) c.args.guess (omega arith)
    (c.last_is_up_to.ensures.0 c.if-not-last_is_up_to.false) (c.next_is_after.ensures.0 c.if-not-next_is_after.false)
