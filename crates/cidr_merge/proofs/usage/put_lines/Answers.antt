use Rattle.cidr_merge.proofs.Known.{◌≤◌, block_size, count_number, fails_at, first_within, printed_more, rest_within, rules}
use Rattle.cidr_merge.proofs.usage.put_lines.Goals as goal

pub put_usage-requires : goal.put_usage-requires
put_usage-requires g c =
    first_within c.loop-one.left.now c.in-Some.others.now c.in-Some.one.now
    (λ one. count_number one.1 ≤ block_size g.A.Address.WIDTH one.0.prefix) c.loop-one.invariant.within
    c.in-Some.ensures.cases.0

pub loop-one-preserved : goal.loop-one-preserved
loop-one-preserved g c = record {
  within = rest_within c.loop-one.left.now c.in-Some.others.now c.in-Some.one.now
      (λ one. count_number one.1 ≤ block_size g.A.Address.WIDTH one.0.prefix) c.loop-one.invariant.within
      c.in-Some.ensures.cases.0;
  printed = printed_more _ _ _ _ _ _ _ _ c.loop-one.invariant.printed c.in-Some.ensures.cases.0
      c.in_ok-put_usage.ensures.ok c.in_ok-put_usage.ensures.failed;
}

pub returns-in_err-put_usage : goal.returns-in_err-put_usage
returns-in_err-put_usage g c =
    fails_at _ _ _ _ _ _ c.put_usage.new.output _ _ (search rules) c.loop-one.invariant.printed
    c.in-Some.ensures.cases.0 c.in_err-put_usage.ensures.failed c.in_err-put_usage.ensures.beginning
