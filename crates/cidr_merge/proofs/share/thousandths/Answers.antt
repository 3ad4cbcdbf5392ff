use Rattle.cidr_merge.proofs.Known.{ℕ, ◌≤◌, ◌^◌, ◌*◌, ◌/◌, all_of, ap, by_halves, count_number, most_of, subst, sym}
use Rattle.std.proofs.lemmas.Nat.{and_mask}
use Rattle.std.specs.Int.Bits.{bit_and}
use Rattle.cidr_merge.proofs.share.thousandths.Goals as goal

pub returns-in_default-clause-exactly : goal.returns-in_default-clause-exactly
returns-in_default-clause-exactly c =
    all_of (count_number c.args.used) c.args.host_bits (ap count_number c.in_default.is) c.requires.within c.requires.bits

pub returns-clause-exactly : goal.returns-clause-exactly
returns-clause-exactly c =
    let n = c.in-Number.number in
    rw c.in-Number.is (by_halves n c.args.host_bits (bit_and n 18446744073709551615) c.if-host_bits-lt64.false
    (and_mask n 64))

pub returns-clause-most : goal.returns-clause-most
returns-clause-most c =
    let n = c.in-Number.number in
    let h : ℕ = c.args.host_bits in
    let within : n ≤ 2 ^ h = rw c.in-Number.is at c.requires.within in
    subst (λ (z : ℕ). z ≤ 1000) (sym (by_halves n h (bit_and n 18446744073709551615) c.if-host_bits-lt64.false
    (and_mask n 64))) (most_of n (2 ^ h) within)
