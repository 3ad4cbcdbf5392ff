use Rattle.cidr_join.proofs.Known.{◌∙◌, ◌||◌, ◌&&◌, not, Bool, List, ap, refl, sym, Network, one_has}
use Rattle.std.proofs.Common.{is_some}
use Rattle.cidr_join.proofs.routes.refuses_range.Goals as goal

pub loop-block-init : goal.loop-block-init
loop-block-init g c = refl

pub loop-block-preserved : goal.loop-block-preserved
loop-block-preserved g c =
    let has : List Network → Bool = one_has g.N.CidrNetwork.WIDTH c.args.table.now in
    c.loop-block.invariant ∙ ap has c.in-Some.ensures.steps ∙ ap (λ (b : Bool). b || has c.next.new.self)
    (sym (c.is_some.ensures ∙ ap is_some c.get.ensures.value) ∙ c.if-is_some.false)

pub returns-then-last_wins : goal.returns-then-last_wins
returns-then-last_wins g c = (
  c.blocks_of-blocks.result,
  c.blocks_of-blocks.ensures.blocks,
  sym (ap (λ (b : Bool).
      not b && one_has g.N.CidrNetwork.WIDTH c.args.table.now c.blocks_of-blocks.result) c.if-last_wins.true),
)

pub returns-then-is_some : goal.returns-then-is_some
returns-then-is_some g c =
    let has : List Network → Bool = one_has g.N.CidrNetwork.WIDTH c.args.table.now in (
      c.blocks_of-blocks.result,
      c.blocks_of-blocks.ensures.blocks,
      sym (ap (λ (b : Bool). not b && has c.blocks_of-blocks.result) c.if-last_wins.false
          ∙ c.loop-block.invariant ∙ ap has c.in-Some.ensures.steps ∙ ap (λ (b : Bool). b || has c.next.new.self)
          (sym (c.is_some.ensures ∙ ap is_some c.get.ensures.value) ∙ c.if-is_some.true)),
    )

pub returns : goal.returns
returns g c =
    let has : List Network → Bool = one_has g.N.CidrNetwork.WIDTH c.args.table.now in (
      c.blocks_of-blocks.result,
      c.blocks_of-blocks.ensures.blocks,
      sym (ap (λ (b : Bool). not b && has c.blocks_of-blocks.result) c.if-last_wins.false ∙ c.loop-block.invariant
          ∙ ap has c.in_default.ensures.steps.0),
    )
