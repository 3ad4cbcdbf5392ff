-- The laws of `has4`, `has` and `rel`: they answer by sets.
use Rattle.std.specs.Prelude.{◌≡◌, ◌↔◌, ℕ, List, codes}
use Rattle.ipnetwork_addr.specs.Either.{NamesIp}
use Rattle.ipnetwork_addr.specs.Ipv4Text.{NamesV4}
use Rattle.ipnetwork_addr.specs.declared.ip.IpAddr.{IpAddr}
use Rattle.ipnetwork_family.specs.Ipv4NetworkText.{NamesV4Network}
use Rattle.ipnetwork_family.specs.Network.{Network, Member}
use Rattle.ipnetwork.specs.IpNetworks.{IsIpNetwork, IpMember, IpSubnet}
use Rattle.ipnetwork.specs.IpNetworkText.{NamesIpNetwork}
use Rattle.ipnetwork.specs.declared.ip_network.IpNetwork.{IpNetwork}
use Rattle.cidr.specs.Commands.{has4_answer, has_answer, rel_answer}

-- for texts that name a network and an address, `has4` replies `yes` exactly if the address is a member of the network,
-- and `no` exactly if it is not
abbrev pub Has4AnswersMembership : Type 0
Has4AnswersMembership = (text word : List ℕ) (n : Network) (a : ℕ) → NamesV4Network text n → NamesV4 word a
    → ((has4_answer text word ≡ codes "yes") ↔ Member 32 n a)
    × ((has4_answer text word ≡ codes "no") ↔ ¬ (Member 32 n a))

-- the same for `has`, for both families
abbrev pub HasAnswersMembership : Type 0
HasAnswersMembership = (text word : List ℕ) (n : IpNetwork) (a : IpAddr) → NamesIpNetwork text n → NamesIp word a
    → ((has_answer text word ≡ codes "yes") ↔ IpMember n a) × ((has_answer text word ≡ codes "no") ↔ ¬ (IpMember n a))

-- for texts that name two networks, `rel` compares their sets: it replies `same` exactly if each is a subset of the
-- other, `inside` exactly if only the first is a subset of the second, `around` exactly if only the second is a subset
-- of the first, and `apart` exactly if neither is a subset of the other
pub record Relates (answer : List ℕ) (a b : IpNetwork) : Type 0 where
  pub same : (answer ≡ codes "same") ↔ (IpSubnet a b × IpSubnet b a)
  pub inside : (answer ≡ codes "inside") ↔ (IpSubnet a b × (¬ (IpSubnet b a)))
  pub around : (answer ≡ codes "around") ↔ ((¬ (IpSubnet a b)) × IpSubnet b a)
  pub apart : (answer ≡ codes "apart") ↔ ((¬ (IpSubnet a b)) × (¬ (IpSubnet b a)))

abbrev pub RelatesSets : Type 0
RelatesSets = (text other : List ℕ) (a b : IpNetwork) → IsIpNetwork a → IsIpNetwork b
    → NamesIpNetwork text a → NamesIpNetwork other b → Relates (rel_answer text other) a b
