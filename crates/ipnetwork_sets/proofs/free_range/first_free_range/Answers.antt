use Rattle.ipnetwork_sets.proofs.Known.{arith, iff_false, high, has_ends, between, free_up_to, free_whole, not_before, others_are_set, skips_before, skips_block, skips_whole}
use Rattle.ipnetwork_sets.proofs.free_range.first_free_range.Goals as goal

pub loop-taken-preserved-then-is_before : goal.loop-taken-preserved-then-is_before
loop-taken-preserved-then-is_before g c =
    let i = c.loop-taken.invariant in
    let apart = c.one_block.ensures.apart in
    let before = rw c.broadcast-end.ensures at (c.is_before.ensures.0 c.if-is_before.true) in
    record {
      set = (c.in-Some.ensures.1, others_are_set _ _ _ _ _ _ _ _ apart c.in-Some.ensures.0 i.set.1 i.inside i.skips);
      inside = i.inside;
      skips = skips_before _ _ _ _ _ _ _ _ apart c.in-Some.ensures.0 i.set.1 i.inside i.skips before;
    }

pub returns-then-is_before-2-clause-free : goal.returns-then-is_before-2-clause-free
returns-then-is_before-2-clause-free g c =
    let i = c.loop-taken.invariant in
    let behind = rw (c.broadcast-last.ensures, c.ip-begin.ensures.made) at
    (c.is_before-else-is_before.ensures.0 c.if-is_before-2.true) in
    rw c.broadcast-last.ensures (
      free_whole _ _ _ _ _ _ _ _ c.one_block.ensures.apart c.in-Some.ensures.0 i.set.1 i.inside i.skips behind,
      i.skips,
    )

pub returns-then-is_before-3-clause-free : goal.returns-then-is_before-3-clause-free
returns-then-is_before-3-clause-free g c =
    let i = c.loop-taken.invariant in
    let less = rw c.ip-begin.ensures.made at (c.is_before-else-is_before-2.ensures.0 c.if-is_before-3.true) in
    let inside = not_before _ _ (rw (c.broadcast-last.ensures, c.ip-begin.ensures.made) at
    (iff_false c.is_before-else-is_before.ensures c.if-is_before-2.false)) in (
      free_up_to _ _ _ _ _ _ _ _ c.one_block.ensures.apart c.in-Some.ensures.0 i.set.1 i.inside i.skips less inside _
          (rw c.ip-begin.ensures.made at c.in-Some-previous_address.ensures),
      i.skips,
    )

pub unreachable-requires-in_default-next_address : goal.unreachable-requires-in_default-next_address
unreachable-requires-in_default-next_address g c =
    let w = g.N.CidrNetwork.WIDTH in
    let whole = g.N.CidrNetwork.pair c.args.whole in
    let fits = (has_ends w whole c.requires.whole.network).high_is_member.0 in
    let less = c.is_before-else-is_before-3.ensures.0 c.if-is_before-4.true in
    omega (arith, fits, less, c.in_default-next_address.ensures, c.broadcast-last.ensures)

pub loop-taken-preserved : goal.loop-taken-preserved
loop-taken-preserved g c =
    let i = c.loop-taken.invariant in
    let apart = c.one_block.ensures.apart in
    let w = g.N.CidrNetwork.WIDTH in
    let whole = g.N.CidrNetwork.pair c.args.whole in
    let begins = not_before _ _
    (rw c.ip-begin.ensures.made at (iff_false c.is_before-else-is_before-2.ensures c.if-is_before-3.false)) in
    let ends = not_before _ _ (rw c.broadcast-end.ensures at (iff_false c.is_before.ensures c.if-is_before.false)) in
    let less = rw (c.broadcast-end.ensures, c.broadcast-last.ensures) at
    (c.is_before-else-is_before-3.ensures.0 c.if-is_before-4.true) in
    let is = rw c.broadcast-end.ensures at c.in-Some-next_address.ensures.1 in
    record {
      set = (c.in-Some.ensures.1, others_are_set _ _ _ _ _ _ _ _ apart c.in-Some.ensures.0 i.set.1 i.inside i.skips);
      inside = between w whole (g.N.CidrNetwork.number c.loop-taken.at)
          (g.N.CidrNetwork.number c.in-Some-next_address.next) (high w whole) c.requires.whole i.inside
          (omega (arith, is, ends)) (omega (arith, is, less)) (omega arith);
      skips = skips_block _ _ _ _ _ _ _ _ apart c.in-Some.ensures.0 i.set.1 i.inside i.skips begins ends _ is;
    }

pub returns-else-is_before-4-clause-free : goal.returns-else-is_before-4-clause-free
returns-else-is_before-4-clause-free g c =
    let i = c.loop-taken.invariant in
    let begins = not_before _ _
    (rw c.ip-begin.ensures.made at (iff_false c.is_before-else-is_before-2.ensures c.if-is_before-3.false)) in
    let ends = not_before _ _ (rw (c.broadcast-end.ensures, c.broadcast-last.ensures) at
    (iff_false c.is_before-else-is_before-3.ensures c.if-is_before-4.false)) in
    skips_whole _ _ _ _ _ _ _ _ c.one_block.ensures.apart c.in-Some.ensures.0 i.set.1 i.inside i.skips begins ends
