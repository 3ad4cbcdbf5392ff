-- The cause for both families, from the causes for each.
use Rattle.ipnetwork.proofs.Words.{ℕ, List, arith, IpAddr, NamesIp, NamesV4, NamesV6, IsCause, before_slash, IsV4Suffix, IsV6Suffix, CidrFault, Format, Addr, Prefix, IsIpCause, first_cause}
use Rattle.ipnetwork_addr.specs.declared.ip.IpAddr.TheVariants as addresses

-- a text that names an address in neither family names none
neither : (text : List ℕ) → ((a : ℕ) → ¬ (NamesV4 text a)) → ((a : ℕ) → ¬ (NamesV6 text a)) → (a : IpAddr)
    → ¬ (NamesIp text a)
neither text no4 no6 (addresses.V4 a) named = no4 a named
neither text no4 no6 (addresses.V6 a) named = no6 a named

-- the cause for both families
pub cause_of_both : (text : List ℕ) (v4 v6 : CidrFault) → IsCause NamesV4 IsV4Suffix text v4
    → IsCause NamesV6 IsV6Suffix text v6 → IsIpCause text (first_cause v4 v6)
cause_of_both text Format v6 several other = several
cause_of_both text Addr Addr (few, no4) (also, no6) = (few, neither (before_slash text) no4 no6)
cause_of_both text Addr Format (few, no4) several = absurd (omega (arith, few, several))
cause_of_both text Addr Prefix (few, no4) (also, (a, named), bad) = (few, (addresses.V6 a, named, bad))
cause_of_both text Prefix v6 (few, (a, named), bad) other = (few, (addresses.V4 a, named, bad))
