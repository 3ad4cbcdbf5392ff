use Rattle.allotting.proofs.Known.{arith, at_hand, count_number, counting_starts, next_counted}
use Rattle.allotting.proofs.usage.used_counts.Goals as goal

pub loop-at-init : goal.loop-at-init
loop-at-init g c =
    let w = g.N.CidrNetwork.WIDTH in
    let pool = c.args.pool.now in
    let used = c.args.used.now in
    let pieces = c.intersection-pieces.result in
    record {
      within = omega arith;
      counting = counting_starts g.N.CidrNetwork.pair count_number w pool used g.met.N.AddressSpace.few_bits
          c.one_block.ensures.networks c.one_block.ensures.apart c.blocks-blocks.ensures.set pieces c.next-next.new.self
          c.next-next.result c.new-usage.result.items c.intersection-pieces.ensures
          (c.shortest.ensures.common w pool used pieces c.intersection-pieces.ensures) c.new-usage.ensures.items
          c.next-next.ensures.steps;
    }

pub loop-at-preserved : goal.loop-at-preserved
loop-at-preserved g c =
    let counting = c.count_within-count in
    record {
      within = omega arith;
      counting = next_counted g.N.CidrNetwork.pair count_number g.N.CidrNetwork.WIDTH c.args.pool.now c.args.used.now
          g.met.N.AddressSpace.few_bits c.one_block.ensures.networks c.one_block.ensures.apart c.blocks-blocks.ensures.set
          c.blocks-blocks.result.now (at_hand g.N.CidrNetwork.pair c.loop-at.next c.loop-at.pieces)
          (at_hand g.N.CidrNetwork.pair counting.result.1 counting.new.pieces) c.loop-at.usage.items
          c.push.new.self.items c.index-blocks-at.result counting.result.0 c.loop-at.at c.blocks-blocks.ensures.blocks
          c.loop-at-test.true c.index-blocks-at.is c.in_ok-push.ensures.items counting.ensures
          c.loop-at.invariant.counting;
    }
