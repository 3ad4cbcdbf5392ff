-- The texts of IPv4 networks.
use Rattle.std.specs.Prelude.{ℕ, ◌≤◌, ◌⊎◌, List, Result}
use Rattle.ipnetwork_addr.specs.Ipv4Text.{NamesV4}
use Rattle.ipnetwork_family.specs.Network.{Network, mask_of}
use Rattle.ipnetwork_family.specs.NetworkText.{NamesNetwork, ReadsNetwork}
use Rattle.ipnetwork_family.specs.PrefixNumber.{IsPrefixNumber}
use Rattle.ipnetwork_family.specs.declared.error.CidrFault.{CidrFault}

-- a prefix length of at most 32, as a number or as its mask written as an IPv4 address
abbrev pub IsV4Suffix : List ℕ → ℕ → Type 0
IsV4Suffix text p = (p ≤ 32) × (IsPrefixNumber text p ⊎ NamesV4 text (mask_of 32 p))

-- the text names the IPv4 network
abbrev pub NamesV4Network : List ℕ → Network → Type 0
NamesV4Network text n = NamesNetwork 32 NamesV4 IsV4Suffix text n

-- the result of reading the text as an IPv4 network
abbrev pub ReadsV4Network : List ℕ → Result Network CidrFault → Type 0
ReadsV4Network text result = ReadsNetwork 32 NamesV4 IsV4Suffix text result
