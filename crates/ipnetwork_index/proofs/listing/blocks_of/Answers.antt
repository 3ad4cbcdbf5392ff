use Rattle.ipnetwork_index.proofs.Known.{map, arith, map_push, All-push, IsCidrBlock, next_taken}
use Rattle.ipnetwork_index.proofs.listing.blocks_of.Goals as goal

pub loop-network-preserved : goal.loop-network-preserved
loop-network-preserved g c =
    let before = c.loop-network.invariant in
    record {
      made = simp (
        c.in_ok-push.ensures.items,
        map_push,
        before.made,
        c.block.ensures.made,
        next_taken c.args.networks.now c.loop-network.network-index c.network-item.result
            (omega arith) c.network-item.is,
      );
      blocks = rw (c.in_ok-push.ensures.items, map_push) (All-push
          (IsCidrBlock g.N.CidrNetwork.WIDTH)
          (map g.N.CidrNetwork.pair c.loop-network.blocks.items)
          (g.N.CidrNetwork.pair c.block.result) before.blocks
          (record { network = c.block.ensures.network; block = c.block.ensures.no_host_bits }));
    }
