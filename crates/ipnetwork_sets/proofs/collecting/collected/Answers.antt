use Rattle.ipnetwork_sets.proofs.Known.{◌≡◌, List, map, sym, ap, subst, arith, Network, IsAddressSet, collecting_starts, collecting_goes_on, collecting_ends, collecting_had_no_room, failed, all_are_set}
use Rattle.ipnetwork_sets.proofs.collecting.collected.Goals as goal

pub loop-block-init : goal.loop-block-init
loop-block-init g c = record {
  all = collecting_starts g.N.CidrNetwork.WIDTH _ _ (ap (map g.N.CidrNetwork.pair) c.clear.ensures.items);
  room = omega (arith, c.clear.ensures.capacity);
}

pub loop-block-preserved : goal.loop-block-preserved
loop-block-preserved g c = record {
  all =
      collecting_goes_on g.N.CidrNetwork.pair g.N.CidrNetwork.WIDTH c.loop-block.memory.items c.push.new.self.items
      c.in-Some.block
      (g.B.SetBlocks.left c.loop-block.blocks) (g.B.SetBlocks.left c.next_block.new.self)
      (g.B.SetBlocks.left c.args.blocks)
      c.loop-block.invariant.all c.next_block.ensures.set c.in-Some.ensures.step c.in_ok-push.ensures.items;
  room = omega (arith, c.loop-block.invariant.room, c.in_ok-push.ensures.capacity);
}

pub of_blocks-requires : goal.of_blocks-requires
of_blocks-requires g c =
    let all : map g.N.CidrNetwork.pair c.loop-block.memory.items ≡ g.B.SetBlocks.left c.args.blocks =
    collecting_ends g.N.CidrNetwork.WIDTH _ _ _ c.loop-block.invariant.all c.in_default.ensures.step.0 in
    subst (λ (t : List Network). IsAddressSet g.N.CidrNetwork.WIDTH t) (sym all)
    (all_are_set g.N.CidrNetwork.WIDTH _ _ _ c.loop-block.invariant.all c.next_block.ensures.set)

pub returns-in_err-push-clause-room : goal.returns-in_err-push-clause-room
returns-in_err-push-clause-room g c =
    failed c.from_residual.result
    (collecting_had_no_room g.N.CidrNetwork.pair g.N.CidrNetwork.WIDTH c.loop-block.memory.items c.in-Some.block
    (g.B.SetBlocks.left c.loop-block.blocks) (g.B.SetBlocks.left c.next_block.new.self)
    (g.B.SetBlocks.left c.args.blocks) _ _ _
    c.loop-block.invariant.all c.in-Some.ensures.step c.loop-block.memory.ok.0 c.loop-block.invariant.room
    c.in_err-push.ensures.full)
