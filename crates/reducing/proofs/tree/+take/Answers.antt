use Rattle.reducing.proofs.Known.{◌++◌, arith, get_or, IsTaken, IsTree, alone, blocks, split, closed_again, opened_blocks, opened_trees}
use Rattle.reducing.proofs.tree.+take.Goals.{take-in-First, take-in-Last}
use Rattle.reducing.proofs.tree.+take.Goals as goal

pub take-take_from-requires : goal.take-take_from-requires
take-take_from-requires g t c κs within =
    let trees = opened_trees g.N.CidrNetwork.WIDTH g.N.CidrNetwork.pair _ _ _ _ _ _
    (split c.args.tree.now c.split_at_mut-left.result.0.now c.split_at_mut-left.result.1.now
    c.split_at_mut-place.result.0.now c.split_at_mut-place.result.1.now c.index-place-0.result
    c.split_at_mut-left.ensures.value c.split_at_mut-place.ensures.value c.split_at_mut-place.ensures.front_len
    c.split_at_mut-left.ensures.front_len c.index-place-0.is) c.requires in
    (omega arith, (within.0, (within.1, (trees.0, trees.1))))

pub take-take_from-requires-in-Last : goal.take-take_from-requires-in-Last
take-take_from-requires-in-Last g t c κs within =
    let trees = opened_trees g.N.CidrNetwork.WIDTH g.N.CidrNetwork.pair _ _ _ _ _ _
    (split c.args.tree.now c.split_at_mut-left.result.0.now c.split_at_mut-left.result.1.now
    c.split_at_mut-place.result.0.now c.split_at_mut-place.result.1.now c.index-place-0.result
    c.split_at_mut-left.ensures.value c.split_at_mut-place.ensures.value c.split_at_mut-place.ensures.front_len
    c.split_at_mut-left.ensures.front_len c.index-place-0.is) c.requires in
    (omega arith, (within.0, (within.1, (trees.1, trees.0))))

pub take-root-requires : goal.take-root-requires
take-root-requires g t c =
    elim c.match-end.branch [
      | take-in-First
          w ↦ record { left = rw w.left-is w.take_from.ensures.near; right = rw w.right-is w.take_from.ensures.far }
      | take-in-Last
          w ↦ record {
            left = rw w.left-is w.take_from-in-Last.ensures.far;
            right =
                rw w.right-is w.take_from-in-Last.ensures.near;
          }
    ]

pub take-returns : goal.take-returns
take-returns g t c =
    let s = split c.args.tree.now c.split_at_mut-left.result.0.now c.split_at_mut-left.result.1.now
    c.split_at_mut-place.result.0.now c.split_at_mut-place.result.1.now c.index-place-0.result
    c.split_at_mut-left.ensures.value c.split_at_mut-place.ensures.value c.split_at_mut-place.ensures.front_len
    c.split_at_mut-left.ensures.front_len c.index-place-0.is in
    let left = c.match-end.left in
    let right = c.match-end.right in
    let parts : IsTree g.N.CidrNetwork.WIDTH g.N.CidrNetwork.pair left
    × IsTree g.N.CidrNetwork.WIDTH g.N.CidrNetwork.pair right × IsTaken g.N.CidrNetwork.pair c.args.end
    ((blocks g.N.CidrNetwork.pair c.split_at_mut-left.result.0.now
    ++ alone g.N.CidrNetwork.pair (get_or c.split_at_mut-place.result.0.now 0 c.index-place-0.result).block)
    ++ blocks g.N.CidrNetwork.pair c.split_at_mut-place.result.1.now)
    ((blocks g.N.CidrNetwork.pair left ++ alone g.N.CidrNetwork.pair c.match-end.taken.1)
    ++ blocks g.N.CidrNetwork.pair right) c.match-end.taken.0 = elim c.match-end.branch [
      | take-in-First w ↦ rw (w.left-is, w.right-is, w.taken-is, w.in-First.is)
          (w.take_from.ensures.near, w.take_from.ensures.far, w.take_from.ensures.taken)
      | take-in-Last w ↦ rw (w.left-is, w.right-is, w.taken-is, w.in-Last.is)
          (w.take_from-in-Last.ensures.far, w.take_from-in-Last.ensures.near, w.take_from-in-Last.ensures.taken)
    ] in
    let again = closed_again g.N.CidrNetwork.WIDTH g.N.CidrNetwork.pair _ _ _ _ _ _ left right c.root.result _ s
    c.match-end.auto.left c.match-end.auto.right c.root.ensures.block parts.0 parts.1 c.root.ensures.span in
    record { tree = again.0; taken = rw (opened_blocks g.N.CidrNetwork.pair _ _ _ _ _ _ s, again.1) parts.2 }
