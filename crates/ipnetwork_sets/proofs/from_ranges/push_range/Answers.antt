use Rattle.ipnetwork_sets.proofs.Known.{◌++◌, ◌∙◌, ap, sym, subst, arith, length, map, take, FromTo, AddsFirstOfLeastList, failed, pushing_had_no_room, adds_none, adds_one, adds_all, adds_in_vain, front_stays, pushing_goes_on, adds_first, adds_first_of_none}
use Rattle.ipnetwork_sets.proofs.from_ranges.push_range.Goals as goal

pub returns-in_default-clause-added : goal.returns-in_default-clause-added
returns-in_default-clause-added g c =
    adds_none g.N.CidrNetwork.WIDTH (g.N.CidrNetwork.number c.args.first) (g.N.CidrNetwork.number c.args.last)
    (map g.N.CidrNetwork.pair c.args.networks.now.items) c.in_default.ensures.blocks

pub returns-in_default-clause-part : goal.returns-in_default-clause-part
returns-in_default-clause-part g c =
    adds_first_of_none g.N.CidrNetwork.WIDTH (g.N.CidrNetwork.number c.args.first) (g.N.CidrNetwork.number c.args.last)
    (map g.N.CidrNetwork.pair c.args.networks.now.items)
    c.in_default.ensures.blocks

pub loop-block-preserved : goal.loop-block-preserved
loop-block-preserved g c = record {
  together =
      adds_one g.N.CidrNetwork.pair c.loop-block.networks.items c.push.new.self.items c.in-Some-next.block
      c.loop-block.blocks c.next.new.self
      (map g.N.CidrNetwork.pair c.args.networks.now.items ++ c.in-Some.blocks) c.in_ok-push.ensures.items
      c.in-Some-next.ensures.steps c.loop-block.invariant.together;
  front = front_stays c.args.networks.now.items c.loop-block.networks.items c.push.new.self.items c.in-Some-next.block
      c.in_ok-push.ensures.items c.loop-block.invariant.front;
  part =
      pushing_goes_on g.N.CidrNetwork.pair c.loop-block.networks.items c.push.new.self.items c.in-Some-next.block
      (map g.N.CidrNetwork.pair c.args.networks.now.items) c.in-Some.blocks
      c.loop-block.blocks c.next.new.self c.in_ok-push.ensures.items c.in-Some-next.ensures.steps
      c.loop-block.invariant.part;
  room = omega (arith, c.loop-block.invariant.room, c.in_ok-push.ensures.capacity);
}

pub returns-in_err-push : goal.returns-in_err-push
returns-in_err-push g c = record {
  address = c.block.ensures.address;
  added = adds_in_vain c.from_residual.result _ c.from_residual.ensures.0;
  front = ap (λ t. take (length c.args.networks.now.items) t) c.in_err-push.ensures.items
      ∙ c.loop-block.invariant.front;
  part =
      subst (λ t. AddsFirstOfLeastList g.N.CidrNetwork.WIDTH
      (FromTo (g.N.CidrNetwork.number c.args.first) (g.N.CidrNetwork.number c.args.last))
      (map g.N.CidrNetwork.pair c.args.networks.now.items) (map g.N.CidrNetwork.pair t))
      (sym c.in_err-push.ensures.items)
      (adds_first g.N.CidrNetwork.WIDTH (g.N.CidrNetwork.number c.args.first) (g.N.CidrNetwork.number c.args.last)
      (map g.N.CidrNetwork.pair c.args.networks.now.items)
      (map g.N.CidrNetwork.pair c.loop-block.networks.items) c.in-Some.blocks c.loop-block.blocks
      c.in-Some.ensures.blocks.1 c.loop-block.invariant.part);
  capacity = omega (arith, c.loop-block.invariant.room, c.push.ensures.capacity);
  room = λ blocks h.
      failed c.from_residual.result
      (pushing_had_no_room g.N.CidrNetwork.pair g.N.CidrNetwork.WIDTH
      (FromTo (g.N.CidrNetwork.number c.args.first) (g.N.CidrNetwork.number c.args.last))
      c.loop-block.networks.items c.args.networks.now.items c.in-Some-next.block c.loop-block.blocks c.next.new.self
      c.in-Some.blocks blocks _ _ _ _
      c.loop-block.invariant.together c.in-Some.ensures.blocks.1 h c.in-Some-next.ensures.steps
      c.loop-block.networks.ok.0 c.args.networks.now.ok.0 c.loop-block.invariant.room c.in_err-push.ensures.full);
}

pub returns-clause-added : goal.returns-clause-added
returns-clause-added g c =
    adds_all g.N.CidrNetwork.WIDTH (g.N.CidrNetwork.number c.args.first) (g.N.CidrNetwork.number c.args.last)
    (map g.N.CidrNetwork.pair c.args.networks.now.items)
    (map g.N.CidrNetwork.pair c.loop-block.networks.items) c.loop-block.blocks c.in-Some.blocks
    c.in-Some.ensures.blocks.1 c.loop-block.invariant.together c.in_default-next.ensures.steps.0

pub returns-clause-part : goal.returns-clause-part
returns-clause-part g c =
    adds_first g.N.CidrNetwork.WIDTH (g.N.CidrNetwork.number c.args.first) (g.N.CidrNetwork.number c.args.last)
    (map g.N.CidrNetwork.pair c.args.networks.now.items)
    (map g.N.CidrNetwork.pair c.loop-block.networks.items) c.in-Some.blocks c.loop-block.blocks
    c.in-Some.ensures.blocks.1 c.loop-block.invariant.part
