use Rattle.cidr_merge.proofs.Known.{◌∙◌, rules, sym, flat_map, ap, puts_it, network_line, cut_into, printed_more, all_printed, fails_at}
use Rattle.cidr_merge.proofs.cutting.print_block.Goals as goal

pub loop-piece-preserved : goal.loop-piece-preserved
loop-piece-preserved g c =
    printed_more _ _ _ _ _ _ _ _ c.loop-piece.invariant c.in-Some-next.ensures.steps
    c.in_ok-put_network.ensures.ok c.in_ok-put_network.ensures.failed

pub returns-in_err-put_network : goal.returns-in_err-put_network
returns-in_err-put_network g c =
    let cut = c.in-Some.ensures in
    puts_it _ c.args.output.now _ _ _
    (ap (flat_map (network_line c.args.names.now g.A.Address.family))
    (cut.2 ∙ sym (cut_into g.A.Address.WIDTH c.args.length c.args.block cut.0 cut.1)))
    (fails_at _ _ _ _ _ _ _ _ _ (search rules) c.loop-piece.invariant
    c.in-Some-next.ensures.steps c.in_err-put_network.ensures.failed c.in_err-put_network.ensures.beginning)

pub returns : goal.returns
returns g c =
    let cut = c.in-Some.ensures in
    puts_it _ c.args.output.now c.loop-piece.output _ _
    (ap (flat_map (network_line c.args.names.now g.A.Address.family))
    (cut.2 ∙ sym (cut_into g.A.Address.WIDTH c.args.length c.args.block cut.0 cut.1)))
    (all_printed _ _ _ _ _ _ c.loop-piece.invariant c.in_default-next.ensures.steps.0)
