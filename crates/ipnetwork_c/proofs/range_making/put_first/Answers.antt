use Rattle.ipnetwork_c.proofs.Known.{ℕ, ◌+◌, refl, ap, ◌∙◌, take-set_at, alone_at, written_first}
use Rattle.ipnetwork_c.proofs.range_making.put_first.Goals as goal

pub returns-clause-written : goal.returns-clause-written
returns-clause-written g c = written_first c.args.ranges.now c.args.place c.holding.result c.requires

pub returns-clause-put : goal.returns-clause-put
returns-clause-put g c =
    let w : ℕ = g.N.CidrNetwork.WIDTH in
    let is = c.holding.ensures.1 ∙ c.block_at.ensures.made in (
      c.holding.result,
      record { holds_it = c.holding.ensures.0; prefix = ap (λ n. n.prefix) is ∙ c.half.ensures },
      ap (λ n. n.address) is ∙ alone_at w (g.N.CidrNetwork.number c.args.address) (c.half.result + 1) c.half.ensures,
      take-set_at c.args.ranges.now c.args.place (c.args.place + 1) c.holding.result refl c.requires,
    )
