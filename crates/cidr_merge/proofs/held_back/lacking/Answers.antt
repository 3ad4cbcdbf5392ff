use Rattle.cidr_merge.proofs.Known.{◌+◌, arith, refl, length, blocks_left, left_of_second, least_of_second}
use Rattle.cidr_merge.proofs.held_back.lacking.Goals as goal

pub returns : goal.returns
returns c =
    let operation = c.args.operation in
    let v4 = blocks_left c.of-v4.result in
    let v6 = blocks_left c.of-v6.result in
    let others_v4 = left_of_second operation (blocks_left c.of-v4_others.result) in
    let others_v6 = left_of_second operation (blocks_left c.of-v6_others.result) in (
      length v4 + length v6 + (length others_v4 + length others_v6),
      record {
        v4 = v4;
        v6 = v6;
        others_v4 = others_v4;
        others_v6 = others_v6;
        v4_is = c.of-v4.ensures.left;
        v6_is = c.of-v6.ensures.left;
        others_v4_is = least_of_second operation 32 _ _ _ c.of-v4_others.ensures.left;
        others_v6_is = least_of_second operation 128 _ _ _ c.of-v6_others.ensures.left;
        counted = refl;
      },
      omega (arith, c.lacking_beside-without_v4.ensures, c.lacking_beside-without_any.ensures, c.lacking_second.ensures),
    )
