use Rattle.ipnetwork_blocks.proofs.Known.{◌≡◌, ◌≢◌, arith, differ, differ_not, IsHalf, parent_made, upper_answer, lower_answer}
use Rattle.ipnetwork_blocks.proofs.supernets.sibling.Given.{Over}
use Rattle.ipnetwork_blocks.proofs.supernets.sibling.Goals as goal
use Rattle.ipnetwork_blocks.proofs.supernets.sibling.Goals.{After-broadcast}

half : (g : Over) (c : After-broadcast g)
    → IsHalf g.N.CidrNetwork.WIDTH (g.N.CidrNetwork.pair c.args.network) (g.N.CidrNetwork.pair c.in-Some.parent)
    (g.N.CidrNetwork.number c.broadcast-end.result)
    (g.N.CidrNetwork.number c.broadcast.result) c.prefix-prefix.result
half g c = record {
  network = c.ip.ensures.network;
  as_long = c.prefix-prefix.ensures.made;
  some = omega (arith, c.if-prefix-eq0.false);
  parent_is = parent_made g.N.CidrNetwork.WIDTH (g.N.CidrNetwork.number c.ip.result) c.prefix-prefix.result
      (g.N.CidrNetwork.pair c.args.network) (g.N.CidrNetwork.pair c.in-Some.parent) c.ip.ensures.made
      c.prefix-prefix.ensures.made c.in-Some.ensures.cases.1;
  end_is = c.broadcast-end.ensures;
  last_is = c.broadcast.ensures;
}

pub returns-then-ne : goal.returns-then-ne
returns-then-ne g c =
    let number = g.N.CidrNetwork.number in
    let differs : number c.broadcast.result ≢ number c.broadcast-end.result =
    differ g.N.Addr.PartialEq.eq g.N.Addr.Ord.cmp number g.met.N.Addr.Ord.matches_eq
    g.met.N.CidrNetwork.address_order c.broadcast.result c.broadcast-end.result c.ne.result c.ne.ensures c.if-ne.true in
    upper_answer _ _ _ _ _ _ (half g (goal.at.returns-then-ne g c).After-broadcast) g.N.CidrNetwork.pair
    c.block-then-ne.result
    c.block-then-ne.ensures.address differs c.block-then-ne.ensures.cases

pub returns : goal.returns
returns g c =
    let number = g.N.CidrNetwork.number in
    let same : number c.broadcast.result ≡ number c.broadcast-end.result =
    differ_not g.N.Addr.PartialEq.eq g.N.Addr.Ord.cmp number g.met.N.Addr.Ord.matches_eq
    g.met.N.CidrNetwork.address_order c.broadcast.result c.broadcast-end.result c.ne.result c.ne.ensures
    c.if-ne.false in
    lower_answer _ _ _ _ _ _ (half g (goal.at.returns g c).After-broadcast) g.N.CidrNetwork.pair c.block-2.result
    (number c.network.result)
    c.block-2.ensures.address c.network.ensures same c.block-2.ensures.cases
