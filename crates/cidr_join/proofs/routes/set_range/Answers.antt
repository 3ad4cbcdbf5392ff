use Rattle.cidr_join.proofs.Known.{◌≡◌, ◌∙◌, ◌&&◌, not, false, true≢false, List, sym, subst, err_from_is_err_and, Network, one_has, none_set, one_more_set, all_set, only_memory}
use Rattle.cidr_join.proofs.routes.set_range.Goals as goal

pub loop-block-init : goal.loop-block-init
loop-block-init g c = none_set g.N.CidrNetwork.WIDTH c.args.table.now c.args.value c.blocks_of-blocks.result

pub loop-block-preserved : goal.loop-block-preserved
loop-block-preserved g c =
    one_more_set g.N.CidrNetwork.WIDTH c.args.table.now c.loop-block.table c.set_one.new.table c.args.value
    c.blocks_of-blocks.result c.loop-block.blocks c.next.new.self
    (g.N.CidrNetwork.pair c.in-Some.block) c.loop-block.invariant c.in-Some.ensures.steps c.in_ok-set_one.ensures.ok.0

pub returns-in_err-set_one-clause-err : goal.returns-in_err-set_one-clause-err
returns-in_err-set_one-clause-err g c =
    let p = err_from_is_err_and c.from_residual.result c.from_residual.ensures.1 in
    rw (p.1, p.2, only_memory _ c.in_err-set_one.field-0.0 (λ h. true≢false h.0) c.in_err-set_one.ensures.err) tt

pub returns-in_err-set_one-clause-kept : goal.returns-in_err-set_one-clause-kept
returns-in_err-set_one-clause-kept g c =
    let p = err_from_is_err_and c.from_residual.result c.from_residual.ensures.1 in
    rw (p.1, p.2, only_memory _ c.in_err-set_one.field-0.0 (λ h. true≢false h.0) c.in_err-set_one.ensures.err) tt

pub returns-clause-ok : goal.returns-clause-ok
returns-clause-ok g c =
    let w = g.N.CidrNetwork.WIDTH in
    let refuses = c.refuses_range.ensures in
    let blocks = c.blocks_of-blocks.result in
    let one = (c.ranges_are_shortest.ensures.range w (g.N.CidrNetwork.number c.args.first)
    (g.N.CidrNetwork.number c.args.last) blocks c.blocks_of-blocks.ensures.address
    c.blocks_of-blocks.ensures.blocks).one refuses.0 refuses.1 in (
      blocks,
      c.blocks_of-blocks.ensures.blocks,
      subst (λ (l : List Network). (not c.args.last_wins && one_has w c.args.table.now l) ≡ false) one
          (sym refuses.2 ∙ c.if-refuses_range.false),
      all_set w c.args.table.now c.loop-block.table c.args.value blocks c.loop-block.blocks c.loop-block.invariant
          c.in_default.ensures.steps.0,
    )
