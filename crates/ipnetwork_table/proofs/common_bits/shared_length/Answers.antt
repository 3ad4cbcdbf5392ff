use Rattle.ipnetwork_table.proofs.Known.{arith, ◌-◌, ◌/◌, subst, Member, block_at, share_less}
use Rattle.ipnetwork_table.proofs.common_bits.shared_length.Goals as goal

pub halves-preserved : goal.halves-preserved
halves-preserved g c =
    let w = g.N.CidrNetwork.WIDTH in
    let x = g.N.CidrNetwork.number c.ip-first.result in
    let y = g.N.CidrNetwork.number c.ip-second.result in
    let middle = c.halves.most - (c.halves.most - c.halves.least) / 2 in
    let apart : ¬ (Member w (block_at w x middle) y) =
    subst (λ n. ¬ (Member w n y)) c.in-Some.ensures.cases.1 (λ holds. let yes = c.if-contains.ensures.1 holds in cc) in
    record {
      between = omega (arith, c.halves-test.true);
      within = omega (arith, c.halves.invariant.within);
      shared = c.halves.invariant.shared;
      no_more = share_less w x y middle (omega (arith, c.halves-test.true)) apart;
    }
