use Rattle.ipnetwork_addr.proofs.Known.{◌≡◌, ℕ, Result, refl, codes, digits, NamesV6, v6_of, gap_below, Reads, AddrParseError, reading_is_computed, v6_computed}
use Rattle.std.proofs.Common.{Ok, Err}
use Rattle.ipnetwork_addr.specs.declared.error.AddrParseError.TheVariants as kinds
use Rattle.ipnetwork_addr.proofs.laws.computed.v6_reading_is_computed.Goals as goal

pub returns : goal.returns
returns c text result = reading_is_computed NamesV6 v6_of v6_computed _ text result

-- examples: a text that names an address, and one that does not
pub address_is_read : goal.returns → goal.Start → (result : Result ℕ AddrParseError)
    → Reads NamesV6 kinds.Ipv6 (codes "2001:db8::") result → result ≡ Ok 42540766411282592856903984951653826560
unfolding digits v6_of gap_below
address_is_read law c result = (law c (codes "2001:db8::") result).0

pub error_is_read : goal.returns → goal.Start → Reads NamesV6 kinds.Ipv6 (codes "1::2::3") (Err kinds.Ipv6)
unfolding digits v6_of gap_below
error_is_read law c = (law c (codes "1::2::3") (Err kinds.Ipv6)).1 refl
