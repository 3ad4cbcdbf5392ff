-- The longest block that contains an address (RFC 4632, section 5.1).
use Rattle.std.specs.Prelude.{◌≡◌, ℕ, List, ◌∷◌, ◌++◌, Option, None, Some, codes, decimal}
use Rattle.ipnetwork_addr.specs.declared.ip.IpAddr.{IpAddr}
use Rattle.ipnetwork_addr.specs.declared.ip.IpAddr.TheVariants as addresses
use Rattle.ipnetwork_family.specs.Network.{Network}
use Rattle.ipnetwork_table.specs.Table.{Answers}
use Rattle.ipnetwork.specs.IpNetworkText.{ip_network_text}
use Rattle.ipnetwork.specs.declared.ip_network.IpNetwork.{IpNetwork}
use Rattle.ipnetwork.specs.declared.ip_network.IpNetwork.TheVariants.{V4, V6}
use Rattle.cidr.specs.Routes.{Routes}
use Rattle.cidr.specs.Words.{blank}

-- a block of one family with its number, as a network of either family
abbrev pub of_family : (Network → IpNetwork) → Option (Network × ℕ) → Option (IpNetwork × ℕ)
of_family family None = None
of_family family (Some found) = Some (family found.0, found.1)

-- the longest block of the address's family that contains the address, with its number, or `None` if there is none
abbrev pub IsFound : Routes → IpAddr → Option (IpNetwork × ℕ) → Type 0
IsFound routes (addresses.V4 address) found = (block : Option (Network × ℕ)) × Answers 32 routes.v4 address block
    × (found ≡ of_family V4 block)
IsFound routes (addresses.V6 address) found = (block : Option (Network × ℕ)) × Answers 128 routes.v6 address block
    × (found ≡ of_family V6 block)

-- the answer: the block, a blank and its number
abbrev pub found_text : Option (IpNetwork × ℕ) → List ℕ
found_text None = codes "none"
found_text (Some found) = ip_network_text found.0 ++ blank ∷ decimal found.1

-- the answer gives what was found
abbrev pub Finds : Routes → IpAddr → List ℕ → Type 0
Finds routes address answer = (found : Option (IpNetwork × ℕ)) × IsFound routes address found
    × (answer ≡ found_text found)
