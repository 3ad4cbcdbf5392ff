use Rattle.cidr_merge.proofs.Known.{◌-◌, ◌^◌, ap, length, count_number, total, blocks_left, shorter, totalled_on, listed_on, kept_within, at_end}
use Rattle.cidr_merge.proofs.counts.Counts.of.Goals as goal

pub loop-block-smaller : goal.loop-block-smaller
loop-block-smaller g c = shorter _ _ _ c.in-Some.ensures.step

pub loop-block-preserved : goal.loop-block-preserved
loop-block-preserved g c =
    let block = g.N.CidrNetwork.pair c.in-Some.block in
    let w = g.N.CidrNetwork.WIDTH in
    record {
      blocks = listed_on c.loop-block.count c.saturating_add-count.result
          (2 ^ 128 - 1) block _ _ _ c.in-Some.ensures.step c.saturating_add-count.ensures
          c.loop-block.invariant.blocks;
      addresses =
          totalled_on w (count_number c.loop-block.addresses)
          (count_number c.add_block-addresses.result)
          (2 ^ 128) block _ _ _ c.in-Some.ensures.step c.add_block-addresses.ensures
          c.loop-block.invariant.addresses;
      fits = kept_within c.saturating_add-count.result _ _ c.saturating_add-count.ensures;
      within = kept_within
          (count_number c.add_block-addresses.result) _ _ c.add_block-addresses.ensures;
    }

pub returns-clause-blocks : goal.returns-clause-blocks
returns-clause-blocks g c =
    at_end c.loop-block.count (length (blocks_left c.loop-block.blocks)) _ (2 ^ 128 - 1)
    (ap length c.in_default.ensures.step.0) c.loop-block.invariant.fits
    c.loop-block.invariant.blocks

pub returns-clause-addresses : goal.returns-clause-addresses
returns-clause-addresses g c =
    let w = g.N.CidrNetwork.WIDTH in
    at_end (count_number c.loop-block.addresses) (total w (blocks_left c.loop-block.blocks)) _
    (2 ^ 128) (ap (total w) c.in_default.ensures.step.0) c.loop-block.invariant.within
    c.loop-block.invariant.addresses
