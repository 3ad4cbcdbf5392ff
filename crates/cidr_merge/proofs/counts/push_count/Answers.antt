use Rattle.cidr_merge.proofs.Known.{◌≡◌, ◌++◌, decimal, sym, subst, digits, count_number, AddressCount}
use Rattle.cidr_merge.proofs.counts.push_count.Goals as goal

pub returns-in-AllOfIpv6 : goal.returns-in-AllOfIpv6
unfolding digits
returns-in-AllOfIpv6 c =
    subst (λ (count : AddressCount). c.push_str.new.self.bytes ≡ c.args.text.now.bytes
    ++ decimal (count_number count)) (sym c.in-AllOfIpv6.is) c.push_str.ensures.bytes
