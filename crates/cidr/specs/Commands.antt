-- The answer of each command, computed. A word is the list of its bytes.
use Rattle.std.specs.Prelude.{ℕ, Bool, if◌then◌else◌, List, ◌∷◌, ◌++◌, Option, None, Some, Result, Ok, Err, codes}
use Rattle.std.specs.Prelude.{decimal}
use Rattle.ipnetwork_addr.specs.Either.{canonical_ip}
use Rattle.ipnetwork_addr.specs.Computed.Either.{ip_of}
use Rattle.ipnetwork_addr.specs.Ipv4Text.{canonical_v4}
use Rattle.ipnetwork_addr.specs.Computed.Ipv4Text.{v4_of}
use Rattle.ipnetwork_addr.specs.Computed.Ipv6Canonical.{canonical_v6}
use Rattle.ipnetwork_family.specs.Network.{Network}
use Rattle.ipnetwork_family.specs.Computed.Network.{is_member}
use Rattle.ipnetwork_family.specs.NetworkText.{network_text}
use Rattle.ipnetwork_family.specs.Computed.Ipv4NetworkText.{v4_network_of}
use Rattle.ipnetwork_family.specs.Computed.Ipv6NetworkText.{v6_network_of}
use Rattle.ipnetwork_family.specs.declared.error.CidrFault.{CidrFault}
use Rattle.ipnetwork_family.specs.declared.error.CidrFault.TheVariants.{Format, Addr, Prefix}
use Rattle.ipnetwork.specs.IpNetworks.{ip_low, ip_high, ip_mask_of, ip_size}
use Rattle.ipnetwork.specs.Computed.IpNetworks.{is_ip_member, is_ip_subnet}
use Rattle.ipnetwork.specs.IpNetworkText.{ip_network_text}
use Rattle.ipnetwork.specs.Computed.IpNetworkText.{ip_network_of}
use Rattle.ipnetwork.specs.Sizes.{size_number}
use Rattle.ipnetwork.specs.declared.ip_network.IpNetwork.{IpNetwork}
use Rattle.cidr.specs.Words.{blank}

-- the answer to a text that names no network or no address, if no cause is given
abbrev pub refused : List ℕ
refused = codes "refused"

-- ---- `read`, `read4` and `read6`

-- the answer about the network that was read
abbrev pub text_or_refused : (IpNetwork → List ℕ) → Result IpNetwork CidrFault → List ℕ
text_or_refused text (Ok network) = text network
text_or_refused text (Err fault) = refused

-- `read T`: the canonical text of the network that T names
unfoldable pub read_answer : List ℕ → List ℕ
read_answer text = text_or_refused ip_network_text (ip_network_of text)

-- why a text names no network
abbrev pub refusal : CidrFault → List ℕ
refusal Format = codes "refused format"
refusal Addr = codes "refused address"
refusal Prefix = codes "refused prefix"

-- the canonical text of the network that was read, or why there is none
abbrev pub text_or_cause : (ℕ → List ℕ) → Result Network CidrFault → List ℕ
text_or_cause canonical (Ok network) = network_text canonical network
text_or_cause canonical (Err fault) = refusal fault

-- `read4 T`: the canonical text of the IPv4 network that T names, or why it names none
abbrev pub read4_answer : List ℕ → List ℕ
read4_answer text = text_or_cause canonical_v4 (v4_network_of text)

-- `read6 T`: the same for an IPv6 network
unfoldable pub read6_answer : List ℕ → List ℕ
read6_answer text = text_or_cause canonical_v6 (v6_network_of text)

-- ---- `ends`

-- the lowest address of the network, the highest, the mask and the number of addresses (one less at prefix length 0),
-- separated by blanks
abbrev pub ends_text : IpNetwork → List ℕ
ends_text network =
    canonical_ip (ip_low network) ++ blank ∷ canonical_ip (ip_high network) ++ blank ∷ canonical_ip (ip_mask_of network)
    ++ blank ∷ decimal (size_number (ip_size network))

-- `ends T`: these values of the network that T names
unfoldable pub ends_answer : List ℕ → List ℕ
ends_answer text = text_or_refused ends_text (ip_network_of text)

-- ---- `has` and `has4`

-- whether the network that was read has the address that was read as a member. The network is checked first
abbrev pub membership : {N A : Type 0} → (N → A → Bool) → Result N CidrFault → Option A → List ℕ
membership is_in (Err fault) address = codes "refused network"
membership is_in (Ok network) None = codes "refused address"
membership is_in (Ok network) (Some address) = if is_in network address then codes "yes" else codes "no"

-- `has T A`: whether the network that T names has the address that A names as a member
unfoldable pub has_answer : List ℕ → List ℕ → List ℕ
has_answer network address = membership is_ip_member (ip_network_of network) (ip_of address)

-- `has4 T A`: the same for an IPv4 network and an IPv4 address
abbrev pub has4_answer : List ℕ → List ℕ → List ℕ
has4_answer network address = membership (is_member 32) (v4_network_of network) (v4_of address)

-- ---- `rel`

-- whether the sets are the same, the first is a proper subset of the second, the second is a proper subset of the
-- first, or neither is a subset of the other
abbrev pub relation : IpNetwork → IpNetwork → List ℕ
relation a b =
    if is_ip_subnet a b
    then (if is_ip_subnet b a then codes "same" else codes "inside")
    else (if is_ip_subnet b a then codes "around" else codes "apart")

abbrev pub related : Result IpNetwork CidrFault → Result IpNetwork CidrFault → List ℕ
related (Err fault) other = refused
related (Ok a) (Err fault) = refused
related (Ok a) (Ok b) = relation a b

-- `rel T U`: how the sets of the networks that T and U name are related
unfoldable pub rel_answer : List ℕ → List ℕ → List ℕ
rel_answer first second = related (ip_network_of first) (ip_network_of second)
