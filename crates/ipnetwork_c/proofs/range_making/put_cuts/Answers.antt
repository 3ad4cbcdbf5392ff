use Rattle.ipnetwork_c.proofs.Known.{◌≡◌, ◌+◌, List, map, take, get_or, sym, subst, arith, length-map, Network, read_map, AreCutsOf, cuts_none, cuts_more, written_none, written_more}
use Rattle.ipnetwork_c.proofs.range_making.put_cuts.Goals as goal

pub loop-row-init : goal.loop-row-init
loop-row-init g c = record {
  written = written_none c.args.ranges.now;
  cuts = cuts_none g.N.CidrNetwork.WIDTH g.H.HoldsNetwork.holds g.H.HoldsNetwork.held
      (map g.H.HoldsNetwork.held c.args.blocks.now);
}

pub loop-row-preserved : goal.loop-row-preserved
loop-row-preserved g c =
    let held = g.H.HoldsNetwork.held in
    let ns : List Network = map held c.args.blocks.now in
    let size = length-map c.args.blocks.now held in
    let ends = c.put_ends-count.ensures.ends in
    let n : Network = g.N.CidrNetwork.pair c.held_network.result in
    let same : held c.index-blocks-row.result ≡ n = sym c.held_network.ensures in
    let is = read_map held c.args.blocks.now c.loop-row.row c.index-blocks-row.result (omega arith)
    c.index-blocks-row.is in
    record {
      written = written_more c.args.ranges.now c.loop-row.ranges c.put_ends-count.new.ranges c.loop-row.count
          c.put_ends-count.result c.loop-row.invariant.written c.put_ends-count.ensures.written
          c.put_ends-count.ensures.more;
      cuts = subst (AreCutsOf g.N.CidrNetwork.WIDTH g.H.HoldsNetwork.holds held ns (c.loop-row.row + 1)) (sym ends.2)
          (cuts_more g.N.CidrNetwork.WIDTH g.H.HoldsNetwork.holds held ns c.loop-row.row
          (take c.loop-row.count c.loop-row.ranges) ends.0 n c.loop-row.invariant.cuts ends.1 (omega arith)
          (subst (λ (m : Network). m ≡ get_or ns c.loop-row.row m) same is));
    }
