use Rattle.ipnetwork_c.proofs.Known.{ℕ, refl, arith, FromTo, On, Nothing, too_many, all_put, given}
use Rattle.ipnetwork_c.proofs.block_calls.range.Goals as goal

pub returns-in_default : goal.returns-in_default
returns-in_default g c = Nothing ((λ order. omega (arith, order, c.in_default.ensures.blocks)), refl) refl

pub returns-then-wanted-blocks : goal.returns-then-wanted-blocks
returns-then-wanted-blocks g c =
    let w : ℕ = g.N.CidrNetwork.WIDTH in
    let S : ℕ → Type 0 = FromTo (g.N.CidrNetwork.number c.args.first) (g.N.CidrNetwork.number c.args.last) in
    let has = given g.N.CidrNetwork.pair g.H.HoldsNetwork.held c.in-Some.counted _ _ c.put_blocks-wanted.result
    c.put_blocks-wanted.ensures in
    On (
      c.in-Some.ensures.blocks.0,
      too_many w g.H.HoldsNetwork.held S c.args.blocks.now c.in-Some.counted c.args.count.now c.put_blocks-wanted.result
          c.to_usize.result c.in-Some.ensures.blocks.1 has.counted (omega (arith, c.if-wanted-blocks.true))
          c.to_usize.ensures,
    )

pub returns : goal.returns
returns g c =
    let w : ℕ = g.N.CidrNetwork.WIDTH in
    let S : ℕ → Type 0 = FromTo (g.N.CidrNetwork.number c.args.first) (g.N.CidrNetwork.number c.args.last) in
    let has = given g.N.CidrNetwork.pair g.H.HoldsNetwork.held c.in-Some.counted _ _ c.put_blocks-wanted.result
    c.put_blocks-wanted.ensures in
    let put = given g.N.CidrNetwork.pair g.H.HoldsNetwork.held c.in-Some-range_to_blocks.range c.args.blocks.now
    c.put_blocks.new.list c.put_blocks.result c.put_blocks.ensures in
    On (
      c.in-Some.ensures.blocks.0,
      all_put w g.H.HoldsNetwork.held S c.args.blocks.now c.put_blocks.new.list c.in-Some.counted
          c.in-Some-range_to_blocks.range c.args.count.now c.put_blocks-wanted.result c.to_usize.result
          c.put_blocks.result c.in-Some.ensures.blocks.1 has.counted
          (omega (arith, c.if-wanted-blocks.false)) (omega arith) c.to_usize.ensures
          c.in-Some-range_to_blocks.ensures.blocks.1 put,
    )
