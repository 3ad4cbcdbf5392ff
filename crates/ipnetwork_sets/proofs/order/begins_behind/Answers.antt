use Rattle.ipnetwork_sets.proofs.Known.{sym, true≢false, arith, alike}
use Rattle.ipnetwork_sets.proofs.order.begins_behind.Goals as goal

pub returns-in-None : goal.returns-in-None
returns-in-None g c = (
  (λ t. absurd (true≢false (sym t))),
  (λ t. absurd (omega (arith, t, c.ip-begin.ensures.network.address_fits, c.in-None.ensures))),
)

pub returns-in-Some : goal.returns-in-Some
returns-in-Some g c =
    rw (c.in-Some.ensures.1, c.ip-begin.ensures.made) at (alike g.N.Addr.PartialEq.eq g.N.Addr.Ord.cmp
    g.N.CidrNetwork.number g.met.N.Addr.Ord.matches_eq g.met.N.CidrNetwork.address_order
    c.in-Some.next c.ip-begin.result c.eq.result c.eq.ensures)
