use Rattle.ipnetwork_family.proofs.Known.{◌≡◌, ◌-◌, ◌^◌, sym, ap, ap₂, ◌∙◌, arith, bit_or, List, ℕ, take_all, length-set, number_of_segments, filled_more, fits_more}
use Rattle.ipnetwork_family.proofs.segments.filled.Goals as goal

pub loop-i-preserved : goal.loop-i-preserved
loop-i-preserved c = record {
  eight = length-set c.loop-i.filled c.loop-i.i _ ∙ c.loop-i.invariant.eight;
  fits = fits_more c.args.mask.now c.loop-i.i (omega arith) (omega arith) c.loop-i.invariant.fits;
  so_far = filled_more c.args.segments.now c.args.mask.now c.loop-i.filled c.loop-i.i (omega arith)
      (omega arith) (omega arith)
      (omega arith) (omega arith) c.loop-i.invariant.fits c.loop-i.invariant.so_far;
}

pub returns : goal.returns
returns c =
    let xs : List ℕ = c.args.segments.now in
    let ms : List ℕ = c.args.mask.now in
    let end : c.loop-i.i ≡ 8 = omega arith in
    ap number_of_segments (sym (take_all c.loop-i.i c.loop-i.filled (omega arith)))
    ∙ c.loop-i.invariant.so_far
    ∙ ap₂ (λ a b. bit_or (number_of_segments a) (65536 ^ c.loop-i.i - 1 - number_of_segments b))
    (take_all c.loop-i.i xs (omega arith)) (take_all c.loop-i.i ms (omega arith))
    ∙ ap (λ k. bit_or (number_of_segments xs) (65536 ^ k - 1 - number_of_segments ms)) end
