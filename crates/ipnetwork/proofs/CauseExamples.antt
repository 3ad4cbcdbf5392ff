-- Causes at which a misreading of the definitions would show: a text does not have two causes.
use Rattle.ipnetwork.proofs.Words.{◌↔◌, ℕ, List, None, Some, arith, codes, NamesIp, IpAddr, IsV4Suffix, IsV6Suffix, before_slash, HasSeveralSlashes, HasNoSuffix, CidrFault, Format, Addr, Prefix, NamesIpNetwork, IsIpCause, IsIpSuffix, TellsIpCause, IpNetwork}
use Rattle.ipnetwork_addr.specs.declared.ip.IpAddr.TheVariants.{V4, V6}

pub one_slash_is_not_format : ¬ (IsIpCause (codes "10.0.0.0/33") Format)
one_slash_is_not_format h = omega (arith, h)

pub several_slashes_are_not_addr : (text : List ℕ) → HasSeveralSlashes text
    → ¬ (IsIpCause text Addr)
several_slashes_are_not_addr text several (few, none) = omega (arith, several, few)

pub several_slashes_are_not_prefix : (text : List ℕ) → HasSeveralSlashes text
    → ¬ (IsIpCause text Prefix)
several_slashes_are_not_prefix text several (few, some) = omega (arith, several, few)

-- an address of either family suffices
pub address_is_not_addr : (text : List ℕ) (a : IpAddr) → NamesIp (before_slash text) a
    → ¬ (IsIpCause text Addr)
address_is_not_addr text a named (few, none) = none a named

pub no_address_is_not_prefix : (text : List ℕ) → ((a : IpAddr) → ¬ (NamesIp (before_slash text) a))
    → ¬ (IsIpCause text Prefix)
no_address_is_not_prefix text none (few, (a, named, refused)) = none a named

-- the refused suffix is of the family of the address
pub suffix_is_of_the_family : (text : List ℕ)
    → ((a : IpAddr) → NamesIp (before_slash text) a → ¬ (HasNoSuffix (IsIpSuffix a) text))
    → ¬ (IsIpCause text Prefix)
suffix_is_of_the_family text given (few, (a, named, refused)) = given a named refused

-- each family has its own suffixes: IPv4 also has masks
pub suffix_of_v4 : (a p : ℕ) (text : List ℕ) → IsIpSuffix (V4 a) text p ↔ IsV4Suffix text p
suffix_of_v4 a p text = ((λ h. h), (λ h. h))

pub suffix_of_v6 : (a p : ℕ) (text : List ℕ) → IsIpSuffix (V6 a) text p ↔ IsV6Suffix text p
suffix_of_v6 a p text = ((λ h. h), (λ h. h))

-- there is no cause if the text names a network, and only then
pub nothing_is_told : (text : List ℕ) → TellsIpCause text None
    → (n : IpNetwork) × NamesIpNetwork text n
nothing_is_told text named = named

pub a_cause_is_told : (text : List ℕ) (fault : CidrFault) (n : IpNetwork)
    → TellsIpCause text (Some fault) → IsIpCause text fault × ¬ (NamesIpNetwork text n)
a_cause_is_told text fault n told = (told.0, told.1 n)
