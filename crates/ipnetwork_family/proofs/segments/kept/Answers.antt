use Rattle.ipnetwork_family.proofs.Known.{sym, ap, ap₂, ◌∙◌, arith, bit_and, List, ℕ, take_all, length-set, number_of_segments, kept_more}
use Rattle.ipnetwork_family.proofs.segments.kept.Goals as goal

pub loop-i-preserved : goal.loop-i-preserved
loop-i-preserved c = record {
  eight = length-set c.loop-i.kept c.loop-i.i _ ∙ c.loop-i.invariant.eight;
  so_far = kept_more c.args.segments.now c.args.mask.now c.loop-i.kept c.loop-i.i (omega arith)
      (omega arith) (omega arith)
      (omega arith) (omega arith) c.loop-i.invariant.so_far;
}

pub returns : goal.returns
returns c =
    let xs : List ℕ = c.args.segments.now in
    let ms : List ℕ = c.args.mask.now in
    ap number_of_segments (sym (take_all c.loop-i.i c.loop-i.kept (omega arith)))
    ∙ c.loop-i.invariant.so_far
    ∙ ap₂ (λ a b. bit_and (number_of_segments a) (number_of_segments b)) (take_all c.loop-i.i xs
    (omega arith)) (take_all c.loop-i.i ms (omega arith))
