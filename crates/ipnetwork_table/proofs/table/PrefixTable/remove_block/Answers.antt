use Rattle.ipnetwork_table.proofs.Known.{arith, ap, sym, is_some, IsSome, get, is_counted, counted_without, counted_still, without}
use Rattle.ipnetwork_table.proofs.table.PrefixTable.remove_block.Goals as goal

pub count_one_less-requires : goal.count_one_less-requires
count_one_less-requires g c =
    let block = g.N.CidrNetwork.pair c.args.block in
    let stored : IsSome (get c.self.inside.values block) = ap is_some (sym c.in_ok-old.ensures.old) in
    rw c.prefix.ensures.made
    (is_counted c.self.inside.values c.self.inside.used c.self.invariant.1 block
    (omega (arith, c.prefix.ensures.made, c.prefix.type_inv)) stored)

pub invariant_of-self : goal.invariant_of-self
invariant_of-self g c =
    let block = g.N.CidrNetwork.pair c.args.block in
    rw c.in_err-old.ensures.removed (
      without g.N.CidrNetwork.WIDTH c.self.inside.values block c.self.invariant.0,
      counted_still c.self.inside.values c.self.inside.used c.self.invariant.1 block (sym c.in_err-old.ensures.old),
    )

pub invariant_of-self-2 : goal.invariant_of-self-2
invariant_of-self-2 g c =
    let block = g.N.CidrNetwork.pair c.args.block in
    let stored : IsSome (get c.self.inside.values block) = ap is_some (sym c.in_ok-old.ensures.old) in
    rw (c.in_ok-old.ensures.removed, c.count_one_less.ensures, c.prefix.ensures.made) (
      without g.N.CidrNetwork.WIDTH c.self.inside.values block c.self.invariant.0,
      counted_without c.self.inside.values c.self.inside.used c.self.invariant.1 block
          (omega (arith, c.prefix.ensures.made, c.prefix.type_inv, c.self.told)) stored,
    )
