-- The texts of IPv6 networks (RFC 4291, section 2.3).
use Rattle.std.specs.Prelude.{ℕ, ◌≤◌, List, Result}
use Rattle.ipnetwork_addr.specs.Ipv6Text.{NamesV6}
use Rattle.ipnetwork_family.specs.Network.{Network}
use Rattle.ipnetwork_family.specs.NetworkText.{NamesNetwork, ReadsNetwork}
use Rattle.ipnetwork_family.specs.PrefixNumber.{IsPrefixNumber}
use Rattle.ipnetwork_family.specs.declared.error.CidrFault.{CidrFault}

-- a prefix length of at most 128, as a number
abbrev pub IsV6Suffix : List ℕ → ℕ → Type 0
IsV6Suffix text p = (p ≤ 128) × IsPrefixNumber text p

-- the text names the IPv6 network
abbrev pub NamesV6Network : List ℕ → Network → Type 0
NamesV6Network text n = NamesNetwork 128 NamesV6 IsV6Suffix text n

-- the result of reading the text as an IPv6 network
abbrev pub ReadsV6Network : List ℕ → Result Network CidrFault → Type 0
ReadsV6Network text result = ReadsNetwork 128 NamesV6 IsV6Suffix text result
