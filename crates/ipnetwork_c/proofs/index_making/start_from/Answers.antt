use Rattle.ipnetwork_c.proofs.Known.{◌≡◌, ◌+◌, ◌*◌, ◌^◌, ◌<◌, ℕ, List, length, map, arith, length-map, Network, read_map, address_at, own_is, before_more, before_all}
use Rattle.ipnetwork_c.proofs.index_making.start_from.Goals as goal

pub loop-at-preserved : goal.loop-at-preserved
loop-at-preserved g c =
    let held = g.H.HoldsNetwork.held in
    let list = c.args.list.now in
    let ns : List Network = map held list in
    let size : length ns ≡ length list = length-map list held in
    let number : ℕ = address_at ns 0 + c.args.part * 2 ^ c.args.shift in
    let first : (held c.index-list-0.result).address ≡ address_at ns 0 =
    own_is held list 0 c.index-list-0.result (omega arith) c.index-list-0.is in
    let less : (held c.index-list-at.result).address < (held c.index-list-0.result).address + c.args.part * 2
    ^ c.args.shift = c.begins_before.ensures.0 c.if-not-begins_before.false in
    before_more ns number c.loop-at.at (held c.index-list-at.result) c.loop-at.invariant (omega arith)
    (read_map held list c.loop-at.at c.index-list-at.result (omega arith) c.index-list-at.is) (omega arith)

pub returns : goal.returns
returns g c =
    let held = g.H.HoldsNetwork.held in
    let list = c.args.list.now in
    let ns : List Network = map held list in
    let size : length ns ≡ length list = length-map list held in
    before_all ns (address_at ns 0 + c.args.part * 2 ^ c.args.shift) c.loop-at.at c.loop-at.invariant (omega arith)
