use Rattle.reducing.proofs.Known.{◌≡◌, sym, ap, ◌∙◌, ◌++◌, arith, least, alone, blocks, join_in_front, join_in_back, split, closed_again, opened_blocks, opened_trees, join_at_root, join_behind_root, least_is_behind, least_is_less}
use Rattle.reducing.proofs.tree.+join.Goals as goal

pub join-join_parts-block-requires : goal.join-join_parts-block-requires
join-join_parts-block-requires g t c κs within =
    let s = split c.args.tree.now c.split_at_mut-left.result.0.now c.split_at_mut-left.result.1.now
    c.split_at_mut-place.result.0.now c.split_at_mut-place.result.1.now c.index-place-0.result
    c.split_at_mut-left.ensures.value c.split_at_mut-place.ensures.value c.split_at_mut-place.ensures.front_len
    c.split_at_mut-left.ensures.front_len c.index-place-0.is in
    let trees = opened_trees g.N.CidrNetwork.WIDTH g.N.CidrNetwork.pair _ _ _ _ _ _ s c.requires.tree in
    let least_is = c.requires.least
    ∙ ap (least g.N.CidrNetwork.WIDTH) (opened_blocks g.N.CidrNetwork.pair _ _ _ _ _ _ s) in
    (omega arith, (within.0, (within.1, (trees.0, (trees.1, (least_is, c.requires.pair))))))

pub join-returns : goal.join-returns
join-returns g t c =
    let s = split c.args.tree.now c.split_at_mut-left.result.0.now c.split_at_mut-left.result.1.now
    c.split_at_mut-place.result.0.now c.split_at_mut-place.result.1.now c.index-place-0.result
    c.split_at_mut-left.ensures.value c.split_at_mut-place.ensures.value c.split_at_mut-place.ensures.front_len
    c.split_at_mut-left.ensures.front_len c.index-place-0.is in
    let again = closed_again g.N.CidrNetwork.WIDTH g.N.CidrNetwork.pair _ _ _ _ _ _ c.join_parts-block.new.left
    c.join_parts-block.new.right c.root.result _ s
    c.join_parts-block.auto.left c.join_parts-block.auto.right c.root.ensures.block c.join_parts-block.ensures.left
    c.join_parts-block.ensures.right c.root.ensures.span in
    record {
      tree = again.0;
      joins = rw (opened_blocks g.N.CidrNetwork.pair _ _ _ _ _ _ s, again.1)
          c.join_parts-block.ensures.joins;
    }

pub join_parts-join-requires-else-between-others : goal.join_parts-join-requires-else-between-others
join_parts-join-requires-else-between-others g t c κs within =
    let left = blocks g.N.CidrNetwork.pair c.args.left.now in
    let right = blocks g.N.CidrNetwork.pair c.args.right.now in
    let spans = c.followed-front.ensures left (alone g.N.CidrNetwork.pair c.args.block) c.span.ensures
    c.alone.ensures in
    let between = c.between.ensures (left ++ alone g.N.CidrNetwork.pair c.args.block) right spans
    c.span-else-least-others-2.ensures in
    let least_is = c.least-else-least-others.ensures (left ++ alone g.N.CidrNetwork.pair c.args.block) spans in
    let not_in_front = λ (e : c.args.others ≡ least g.N.CidrNetwork.WIDTH
    (left ++ alone g.N.CidrNetwork.pair c.args.block)). c.if-least-others-2.false (omega (arith, least_is, e)) in
    let behind = least_is_behind g.N.CidrNetwork.WIDTH c.args.others c.between.result
    (left ++ alone g.N.CidrNetwork.pair c.args.block) right c.requires.least between not_in_front
    (λ e. c.if-between-others.false (sym e)) in
    (omega arith, (within.0, (within.1, (c.requires.right, (behind.0, c.requires.pair)))))

pub join_parts-returns-then-least-others-clause-joins : goal.join_parts-returns-then-least-others-clause-joins
join_parts-returns-then-least-others-clause-joins g t c =
    let block = alone g.N.CidrNetwork.pair c.args.block in
    join_in_front g.N.CidrNetwork.WIDTH (blocks g.N.CidrNetwork.pair c.args.left.now ++ block) (blocks
    g.N.CidrNetwork.pair c.join.new.tree ++ block) (blocks g.N.CidrNetwork.pair c.args.right.now) c.args.others
    (join_in_front g.N.CidrNetwork.WIDTH (blocks g.N.CidrNetwork.pair c.args.left.now)
    (blocks g.N.CidrNetwork.pair c.join.new.tree) block c.args.others c.join.ensures.joins)

pub join_parts-returns-then-least-others-2-clause-joins : goal.join_parts-returns-then-least-others-2-clause-joins
join_parts-returns-then-least-others-2-clause-joins g t c =
    let left = blocks g.N.CidrNetwork.pair c.args.left.now in
    let front_is = c.least-else-least-others.ensures (left ++ alone g.N.CidrNetwork.pair c.args.block)
    (c.followed-front.ensures left (alone g.N.CidrNetwork.pair c.args.block) c.span.ensures c.alone.ensures) in
    let left_is = c.least.ensures left c.span-2.ensures in
    join_at_root g.N.CidrNetwork.WIDTH c.args.others g.N.CidrNetwork.pair left (blocks g.N.CidrNetwork.pair
    c.take.new.tree) (blocks g.N.CidrNetwork.pair c.args.right.now) c.take.result c.args.block c.both.result
    c.take.ensures.taken c.both.ensures (omega (arith, front_is, c.if-least-others-2.true))
    (λ e. c.if-least-others.false (omega (arith, left_is, e))) c.requires.pair

pub join_parts-returns-then-between-others-clause-joins : goal.join_parts-returns-then-between-others-clause-joins
join_parts-returns-then-between-others-clause-joins g t c =
    let left = blocks g.N.CidrNetwork.pair c.args.left.now in
    let right = blocks g.N.CidrNetwork.pair c.args.right.now in
    let spans = c.followed-front.ensures left (alone g.N.CidrNetwork.pair c.args.block) c.span.ensures
    c.alone.ensures in
    let between = c.between.ensures (left ++ alone g.N.CidrNetwork.pair c.args.block) right spans
    c.span-else-least-others-2.ensures in
    let least_is = c.least-else-least-others.ensures (left ++ alone g.N.CidrNetwork.pair c.args.block) spans in
    let not_in_front = λ (e : c.args.others ≡ least g.N.CidrNetwork.WIDTH
    (left ++ alone g.N.CidrNetwork.pair c.args.block)). c.if-least-others-2.false (omega (arith, least_is, e)) in
    join_behind_root g.N.CidrNetwork.WIDTH c.args.others g.N.CidrNetwork.pair
    (left ++ alone g.N.CidrNetwork.pair c.args.block) right (blocks g.N.CidrNetwork.pair c.take_end-last.new.left)
    (blocks g.N.CidrNetwork.pair c.take-then-between-others.new.tree)
    c.take_end-last.result c.take-then-between-others.result c.both-then-between-others.result
    c.take_end-last.ensures.taken c.take-then-between-others.ensures.taken c.both-then-between-others.ensures
    (rw (← c.if-between-others.true) between) c.requires.pair
    (least_is_less g.N.CidrNetwork.WIDTH c.args.others c.between.result
    (left ++ alone g.N.CidrNetwork.pair c.args.block) right c.requires.least between not_in_front)

pub join_parts-returns-else-between-others-clause-joins : goal.join_parts-returns-else-between-others-clause-joins
join_parts-returns-else-between-others-clause-joins g t c =
    let left = blocks g.N.CidrNetwork.pair c.args.left.now in
    let right = blocks g.N.CidrNetwork.pair c.args.right.now in
    let spans = c.followed-front.ensures left (alone g.N.CidrNetwork.pair c.args.block) c.span.ensures
    c.alone.ensures in
    let between = c.between.ensures (left ++ alone g.N.CidrNetwork.pair c.args.block) right spans
    c.span-else-least-others-2.ensures in
    let least_is = c.least-else-least-others.ensures (left ++ alone g.N.CidrNetwork.pair c.args.block) spans in
    let not_in_front = λ (e : c.args.others ≡ least g.N.CidrNetwork.WIDTH
    (left ++ alone g.N.CidrNetwork.pair c.args.block)). c.if-least-others-2.false (omega (arith, least_is, e)) in
    let behind = least_is_behind g.N.CidrNetwork.WIDTH c.args.others c.between.result
    (left ++ alone g.N.CidrNetwork.pair c.args.block) right c.requires.least between not_in_front
    (λ e. c.if-between-others.false (sym e)) in
    join_in_back g.N.CidrNetwork.WIDTH (left ++ alone g.N.CidrNetwork.pair c.args.block) right
    (blocks g.N.CidrNetwork.pair c.join-else-between-others.new.tree) c.args.others c.between.result between
    behind.1 behind.2
    c.join-else-between-others.ensures.joins
