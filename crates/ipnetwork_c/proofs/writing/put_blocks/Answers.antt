use Rattle.ipnetwork_c.proofs.Known.{◌∷◌, [], List, sym, subst, Yields, map-append, Network, HasBlocks, nothing_put}
use Rattle.ipnetwork_c.proofs.writing.put_blocks.Goals as goal

pub loop-block-init : goal.loop-block-init
loop-block-init g c = nothing_put g.H.HoldsNetwork.held c.args.list.now

pub loop-block-preserved : goal.loop-block-preserved
loop-block-preserved g c =
    subst (λ (l : List Network). HasBlocks g.H.HoldsNetwork.held l c.args.list.now c.put.new.list
    c.saturating_add-count.result)
    (sym (map-append g.N.CidrNetwork.pair c.loop-block.yielded (c.in-Some.block ∷ [])))
    (c.put.ensures _ c.args.list.now c.saturating_add-count.result c.saturating_add-count.ensures
    c.loop-block.invariant)

pub returns : goal.returns
returns g c =
    let yields = subst (λ (i : g.row.I.Denot). Yields g.I.Iterator.next_gives i c.loop-block.yielded
    c.loop-block.block-iterator) c.into_iter-block-iterator.ensures.into_iter_gives c.loop-block.yielded_by in (
      c.loop-block.yielded,
      (c.next.new.self, (c.loop-block.block-iterator, yields, c.in-None.ensures.steps)),
      c.loop-block.invariant,
    )
