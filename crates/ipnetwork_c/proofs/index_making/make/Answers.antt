use Rattle.ipnetwork_c.proofs.Known.{◌≡◌, ◌∙◌, ℕ, List, length, map, sym, subst, arith, length-set, Network, AreLeastParts, starts_more, index_made}
use Rattle.ipnetwork_c.proofs.index_making.make.Goals as goal

pub loop-part-preserved : goal.loop-part-preserved
loop-part-preserved g c =
    let ns : List Network = map g.H.HoldsNetwork.held c.args.list.now in
    record {
      size = length-set c.loop-part.index c.loop-part.part _ ∙ c.loop-part.invariant.size;
      starts = starts_more ns c.loop-part.index c.least_shift-shift.result c.loop-part.part c.loop-part.at
          c.start_from-at.result _ c.loop-part.invariant.starts (omega arith) (omega arith) c.start_from-at.ensures
          (omega (arith, c.min.ensures));
    }

pub returns-clause-made : goal.returns-clause-made
returns-clause-made g c =
    let ns : List Network = map g.H.HoldsNetwork.held c.args.list.now in
    let shift : ℕ = c.least_shift-shift.result in
    let size : length c.loop-part.index ≡ length c.args.index.now = c.loop-part.invariant.size
    ∙ length-set c.args.index.now 0 shift in
    index_made ns c.loop-part.index shift c.loop-part.part c.loop-part.at c.loop-part.invariant.starts (omega arith)
    (subst (λ (k : ℕ). AreLeastParts ns k shift) (sym size) c.least_shift-shift.ensures.least)
