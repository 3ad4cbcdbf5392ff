use Rattle.cidr_join.proofs.Known.{◌∙◌, refl, ap, arith, length, number_counted, stands_whole}
use Rattle.std.proofs.Common.{length-set}
use Rattle.cidr_join.proofs.counts.Counts.count_number.Goals as goal

pub returns-then-number-len : goal.returns-then-number-len
returns-then-number-len c founds found at =
    number_counted founds found c.args.number c.args.self.now c.args.self.now at refl
    (λ within. absurd (omega (arith, within, c.len.ensures, c.args.self.now.numbers.ok.0)))

pub returns : goal.returns
returns c founds found at =
    let numbers = c.args.self.now.numbers in
    let is = rw c.as_mut_slice.ensures.value at c.add_one.ensures in
    number_counted founds found c.args.number c.args.self.now _ at refl (λ within.
    stands_whole c.add_one.new.numbers numbers.items numbers.len
    (ap length is ∙ length-set numbers.items c.args.number _) numbers.ok.0 ∙ is)
