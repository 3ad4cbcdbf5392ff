use Rattle.ipnetwork_addr.proofs.Known.{◌≡◌, ℕ, Result, refl, codes, digits, NamesV4, v4_of, Reads, AddrParseError, reading_is_computed, v4_computed}
use Rattle.std.proofs.Common.{Ok, Err}
use Rattle.ipnetwork_addr.specs.declared.error.AddrParseError.TheVariants as kinds
use Rattle.ipnetwork_addr.proofs.laws.computed.v4_reading_is_computed.Goals as goal

pub returns : goal.returns
returns c text result = reading_is_computed NamesV4 v4_of v4_computed _ text result

-- examples: a text that names an address, and one that does not
pub address_is_read : goal.returns → goal.Start → (result : Result ℕ AddrParseError)
    → Reads NamesV4 kinds.Ipv4 (codes "192.0.2.1") result → result ≡ Ok 3221225985
unfolding digits
address_is_read law c result = (law c (codes "192.0.2.1") result).0

pub error_is_read : goal.returns → goal.Start → Reads NamesV4 kinds.Ipv4 (codes "192.0.2.256") (Err kinds.Ipv4)
unfolding digits
error_is_read law c = (law c (codes "192.0.2.256") (Err kinds.Ipv4)).1 refl
