use Rattle.ipnetwork_family.proofs.Known.{◌+◌, ◌-◌, sym, ap, ap₂, ◌∙◌, arith, get_or, sum_by, count_leading_zeros, take_all, sum_by_more, leading_le}
use Rattle.ipnetwork_family.proofs.segments.leading_ones.Goals as goal

pub loop-i-preserved : goal.loop-i-preserved
loop-i-preserved c = record {
  bound = omega (
    arith,
    c.leading_ones.ensures,
    leading_le 16 (65535 - get_or c.args.segments.now c.loop-i.i 0),
    c.loop-i.invariant.bound,
  );
  so_far = ap₂ (λ n m. n + m) c.loop-i.invariant.so_far c.leading_ones.ensures
      ∙ sym (sum_by_more (λ segment. count_leading_zeros 16 (65535 - segment)) c.args.segments.now
      c.loop-i.i 0 (omega arith));
}

pub returns-clause-sum : goal.returns-clause-sum
returns-clause-sum c = c.loop-i.invariant.so_far
    ∙ ap (sum_by (λ segment. count_leading_zeros 16 (65535 - segment))) (take_all c.loop-i.i
    c.args.segments.now (omega arith))
