use Rattle.ipnetwork_table.proofs.Known.{◌≡◌, ◌<◌, None, arith, get_or, rules, IsSome, get, counted_with, counted_again, room_for_one, with_block}
use Rattle.ipnetwork_table.proofs.table.PrefixTable.insert_block.Goals as goal

pub invariant_of-self : goal.invariant_of-self
invariant_of-self g c = rw c.in_err-old.ensures.unchanged c.self.invariant

pub invariant_of-self-then-is_some : goal.invariant_of-self-then-is_some
invariant_of-self-then-is_some g c =
    let block = g.N.CidrNetwork.pair c.args.block in
    let stored : IsSome (get c.self.inside.values block) = search rules in
    rw c.in_ok-old.ensures.set (
      with_block g.N.CidrNetwork.WIDTH c.self.inside.values block c.args.value (c.self.invariant.0 block stored)
          c.self.invariant.0,
      counted_again c.self.inside.values c.self.inside.used c.self.invariant.1 block c.args.value stored,
    )

pub prove-unreachable-requires : goal.prove-unreachable-requires
prove-unreachable-requires g c =
    let block = g.N.CidrNetwork.pair c.args.block in
    let new : get c.self.inside.values block ≡ None = search rules in
    let room : get_or c.self.inside.used block.prefix 0 < c.len.result =
    rw (c.len.ensures, c.in_ok-old.ensures.set)
    (room_for_one c.self.inside.values c.self.inside.used c.self.invariant.1 block c.args.value
    (omega (arith, c.prefix-prefix.ensures.made, c.prefix-prefix.type_inv)) new) in
    let none : get_or c.self.inside.used c.prefix-prefix.result 0 < c.len.result =
    rw c.prefix-prefix.ensures.made room in
    omega (arith, none, c.if-prove.true)

pub invariant_of-self-2 : goal.invariant_of-self-2
invariant_of-self-2 g c =
    let block = g.N.CidrNetwork.pair c.args.block in
    let new : get c.self.inside.values block ≡ None = search rules in
    rw (c.in_ok-old.ensures.set, c.count_one_more.ensures, c.prefix-prefix.ensures.made) (
      with_block g.N.CidrNetwork.WIDTH c.self.inside.values block c.args.value
          (record { network = c.prefix-prefix.ensures.network; block = c.requires }) c.self.invariant.0,
      counted_with c.self.inside.values c.self.inside.used c.self.invariant.1 block
          (omega (arith, c.prefix-prefix.ensures.made, c.prefix-prefix.type_inv, c.self.told)) c.args.value new,
    )
