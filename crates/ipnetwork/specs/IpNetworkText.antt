-- The texts of networks of either family.
use Rattle.std.specs.Prelude.{◌≡◌, ◌≤◌, List, ℕ, Result, Option, MatchOption}
use Rattle.ipnetwork_addr.specs.Ipv4Text.{canonical_v4}
use Rattle.ipnetwork_addr.specs.Computed.Ipv6Canonical.{canonical_v6}
use Rattle.ipnetwork_addr.specs.Reading.{Reads}
use Rattle.ipnetwork_addr.specs.Either.{NamesIp}
use Rattle.ipnetwork_addr.specs.declared.ip.IpAddr.{IpAddr}
use Rattle.ipnetwork_addr.specs.declared.ip.IpAddr.TheVariants as addresses
use Rattle.ipnetwork_family.specs.NetworkText.{network_text, slashes, before_slash, HasSeveralSlashes, HasNoSuffix}
use Rattle.ipnetwork_family.specs.Ipv4NetworkText.{IsV4Suffix, NamesV4Network}
use Rattle.ipnetwork_family.specs.Ipv6NetworkText.{IsV6Suffix, NamesV6Network}
use Rattle.ipnetwork_family.specs.declared.error.CidrFault.{CidrFault}
use Rattle.ipnetwork_family.specs.declared.error.CidrFault.TheVariants.{Format, Addr, Prefix}
use Rattle.ipnetwork_addr.specs.declared.error.AddrParseError.TheVariants as kinds
use Rattle.ipnetwork_family.specs.Parsing.{Parses}
use Rattle.ipnetwork_family.specs.declared.error.IpNetworkError.{IpNetworkError}
use Rattle.ipnetwork.specs.declared.ip_network.IpNetwork.{IpNetwork}
use Rattle.ipnetwork.specs.declared.ip_network.IpNetwork.TheVariants.{V4, V6}

-- the text names the network in its family
abbrev pub NamesIpNetwork : List ℕ → IpNetwork → Type 0
NamesIpNetwork text (V4 n) = NamesV4Network text n
NamesIpNetwork text (V6 n) = NamesV6Network text n

-- what reading returns: the network that the text names, or `Addr` if it names none, for whatever reason
abbrev pub ReadsIpNetwork : List ℕ → Result IpNetwork CidrFault → Type 0
ReadsIpNetwork text result = Reads NamesIpNetwork Addr text result

-- what parsing returns: the network that the text names, or an error that carries the whole text or is `OutOfMemory`
abbrev pub ParsesIpNetwork : List ℕ → Result IpNetwork IpNetworkError → Type 0
ParsesIpNetwork text result = Parses NamesIpNetwork (λ _ fault. fault ≡ Addr) kinds.Ip text result

-- after the `/`, the text gives this prefix length for a network of this address's family
abbrev pub IsIpSuffix : IpAddr → List ℕ → ℕ → Type 0
IsIpSuffix (addresses.V4 a) text p = IsV4Suffix text p
IsIpSuffix (addresses.V6 a) text p = IsV6Suffix text p

-- why a text names no network of either family; the first cause that applies
abbrev pub IsIpCause : List ℕ → CidrFault → Type 0
-- the text contains two or more `/`
IsIpCause text Format = HasSeveralSlashes text
-- there is at most one `/`, and the text before it is no address of either family
IsIpCause text Addr = (slashes text ≤ 1) × ((a : IpAddr) → ¬ (NamesIp (before_slash text) a))
-- there is at most one `/`, an address before it, and no suffix for that address's family after it
IsIpCause text Prefix = (slashes text ≤ 1) × ((a : IpAddr) × NamesIp (before_slash text) a
    × HasNoSuffix (IsIpSuffix a) text)

-- `None` if the text names a network, else the cause
abbrev pub TellsIpCause : List ℕ → Option CidrFault → Type 0
TellsIpCause text result =
    MatchOption result ((n : IpNetwork) × NamesIpNetwork text n)
    (λ fault. IsIpCause text fault × ((n : IpNetwork) → ¬ (NamesIpNetwork text n)))

-- the canonical text of a network
abbrev pub ip_network_text : IpNetwork → List ℕ
ip_network_text (V4 n) = network_text canonical_v4 n
ip_network_text (V6 n) = network_text canonical_v6 n
