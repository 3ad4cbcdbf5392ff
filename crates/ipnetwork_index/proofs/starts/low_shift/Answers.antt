use Rattle.ipnetwork_index.proofs.Known.{◌≤◌, ⊎_elim, arith, cases_lt, eight_in_each, eight_of_none, few_bits, has_bits, many_bits, two_in_each}
use Rattle.ipnetwork_index.proofs.starts.low_shift.Goals as goal

pub returns-clause-two : goal.returns-clause-two
returns-clause-two c = λ many.
    let h = has_bits c.args.ranges (omega arith) c.ranges.ranges.fits in
    let more = many_bits c.args.ranges _ 17 h many in
    two_in_each c.args.ranges _ c.min.result h
    (omega (arith, more, c.saturating_sub.ensures, c.max.ensures, c.min.ensures))

pub returns-clause-eight : goal.returns-clause-eight
returns-clause-eight c = λ few. ⊎_elim
    (λ (some : 1 ≤ c.args.ranges).
    let h = has_bits c.args.ranges some c.ranges.ranges.fits in
    let less = few_bits c.args.ranges _ 23 h few in
    eight_in_each c.args.ranges _ c.min.result h
    (omega (arith, less, c.saturating_sub.ensures, c.max.ensures, c.min.ensures)))
    (λ (none : c.args.ranges ≤ 0). eight_of_none c.args.ranges c.min.result none)
    (cases_lt 0 c.args.ranges)
