use Rattle.cidr_merge.proofs.Known.{refl, rules, least_of_second, fails_both, puts_both}
use Rattle.cidr_merge.proofs.printing.print_blocks.Goals as goal

pub returns-in_err-print_parts : goal.returns-in_err-print_parts
returns-in_err-print_parts g c =
    let m = c.args.merging.now in
    fails_both _ c.args.output.now c.print_parts.new.output _ _ _ _
    (_, _, c.of-v4.ensures.left, least_of_second m.request.operation 32 _ _ _ c.of-v4_others.ensures.left, refl)
    (_, _, c.of-v6.ensures.left, least_of_second m.request.operation 128 _ _ _ c.of-v6_others.ensures.left, refl)
    (search rules) c.in_err-print_parts.ensures.failed c.in_err-print_parts.ensures.beginning

pub returns : goal.returns
returns g c =
    let m = c.args.merging.now in
    puts_both c.print_parts-2.result c.args.output.now c.print_parts.new.output c.print_parts-2.new.output _ _ _ _
    (_, _, c.of-v4.ensures.left, least_of_second m.request.operation 32 _ _ _ c.of-v4_others.ensures.left, refl)
    (_, _, c.of-v6.ensures.left, least_of_second m.request.operation 128 _ _ _ c.of-v6_others.ensures.left, refl)
    c.in_ok-print_parts.ensures.ok c.in_ok-print_parts.ensures.failed c.print_parts-2.ensures
