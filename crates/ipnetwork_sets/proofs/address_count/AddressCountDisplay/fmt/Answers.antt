use Rattle.ipnetwork_sets.proofs.Known.{sym, subst, decimal, digits, HasWritten, HasWrittenStyled, count_number, AddressCount}
use Rattle.ipnetwork_sets.proofs.address_count.AddressCountDisplay.fmt.Goals as goal

pub returns-in-AllOfIpv6-clause-writes : goal.returns-in-AllOfIpv6-clause-writes
unfolding digits
returns-in-AllOfIpv6-clause-writes g c plain ok =
    subst (λ (s : AddressCount). HasWritten g.W.Write.write_str_gives c.args.f.now (decimal (count_number s))
    c.write_str-in-AllOfIpv6.new.self) (sym c.in-AllOfIpv6.is)
    (c.write_str-in-AllOfIpv6.ensures.writes plain ok)

pub returns-in-AllOfIpv6-clause-styled : goal.returns-in-AllOfIpv6-clause-styled
unfolding digits
returns-in-AllOfIpv6-clause-styled g c plain ok =
    subst (λ (s : AddressCount). HasWrittenStyled g.W.Write.write_str_gives c.args.f.now (decimal (count_number s))
    c.write_str-in-AllOfIpv6.new.self) (sym c.in-AllOfIpv6.is)
    (c.write_str-in-AllOfIpv6.ensures.styled plain ok)
