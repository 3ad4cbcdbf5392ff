use Rattle.ipnetwork_blocks.proofs.Known.{sym, true≢false, iff_false, own_address}
use Rattle.ipnetwork_blocks.proofs.aggregate.lies_in.Goals as goal

pub returns-then-not-contains : goal.returns-then-not-contains
returns-then-not-contains g c = (
  (λ t. absurd (true≢false (sym t))),
  (λ s. absurd (iff_false c.contains.ensures c.if-not-contains.true
      (rw c.ip.ensures.made (s _ (own_address g.N.CidrNetwork.WIDTH (g.N.CidrNetwork.pair c.args.block)
      c.ip.ensures.network))))),
)
