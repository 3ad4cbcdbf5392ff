-- Networks and addresses of either family, in C.
use Rattle.std.specs.Prelude.{◌≡◌, ◌==◌, if◌then◌else◌, ◌++◌, ℕ, List, length, replicate, take, Option, Some, None}
use Rattle.std.specs.Prelude.{Result, Ok, Err}
use Rattle.ipnetwork_addr.specs.Digits.{octets_of, octets_of_v6}
use Rattle.ipnetwork_addr.specs.Either.{NamesIp, unmapped}
use Rattle.ipnetwork_addr.specs.declared.ip.IpAddr.{IpAddr}
use Rattle.ipnetwork_addr.specs.declared.ip.IpAddr.TheVariants as addresses
use Rattle.ipnetwork_family.specs.declared.error.CidrFault.{CidrFault}
use Rattle.ipnetwork.specs.declared.ip_network.IpNetwork.{IpNetwork}
use Rattle.ipnetwork.specs.declared.ip_network.IpNetwork.TheVariants.{V4, V6}
use Rattle.ipnetwork.specs.IpNetworks.{IpMember}
use Rattle.ipnetwork.specs.IpNetworkText.{NamesIpNetwork, TellsIpCause}
use Rattle.ipnetwork_c.specs.declared.structs.Ipv4InC.{Ipv4InC}
use Rattle.ipnetwork_c.specs.declared.structs.Ipv6InC.{Ipv6InC}
use Rattle.ipnetwork_c.specs.declared.structs.IpInC.{IpInC}
use Rattle.ipnetwork_c.specs.declared.address.AddressInC.{AddressInC}
use Rattle.ipnetwork_c.specs.Numbers.{address, prefix, no_family, no_member}
use Rattle.ipnetwork_c.specs.Held.{PrefixFits, HoldsV4, HoldsV6, v4_in, v6_in, number_of_octets}
use Rattle.ipnetwork_c.specs.Outcomes.{Writes, IsFault, Finds}
use Rattle.ipnetwork_c.specs.Answers.{IsFlag}

-- the struct is all zeros
abbrev pub BlankV4 : Ipv4InC → Type 0
BlankV4 held = (held.address ≡ replicate 4 0) × (held.prefix ≡ 0)

abbrev pub BlankV6 : Ipv6InC → Type 0
BlankV6 held = (held.address ≡ replicate 16 0) × (held.prefix ≡ 0)

-- the struct holds the network and its family, and zeros for the other family
abbrev pub HoldsIp : IpInC → IpNetwork → Type 0
HoldsIp held (V4 n) = (held.family ≡ 4) × HoldsV4 held.v4 n × BlankV6 held.v6
HoldsIp held (V6 n) = (held.family ≡ 6) × BlankV4 held.v4 × HoldsV6 held.v6 n

-- the result of reading with the cause: the network that the text names, or the cause why it names none
abbrev pub ReadsWithCause : List ℕ → Result IpNetwork CidrFault → Type 0
ReadsWithCause text (Ok n) = NamesIpNetwork text n
ReadsWithCause text (Err cause) = TellsIpCause text (Some cause)

-- the network of the family that the struct states, if that is 4 or 6
abbrev pub ip_in : IpInC → Option IpNetwork
ip_in held =
    if held.family == 4 then Some (V4 (v4_in held.v4))
    else (if held.family == 6 then Some (V6 (v6_in held.v6)) else None)

-- the address of these octets, if there are 4 or 16
abbrev pub address_in : List ℕ → Option IpAddr
address_in octets =
    if length octets == 4 then Some (addresses.V4 (number_of_octets octets))
    else (if length octets == 16 then Some (addresses.V6 (number_of_octets octets)) else None)

-- the prefix length is at most the address width of the network's family
abbrev pub IpPrefixFits : IpNetwork → Type 0
IpPrefixFits (V4 n) = PrefixFits 32 n
IpPrefixFits (V6 n) = PrefixFits 128 n

-- the struct holds the address: its octets, the highest first, their number, and zeros after them
abbrev pub HoldsAddress : AddressInC → IpAddr → Type 0
HoldsAddress held (addresses.V4 a) = (held.octets ≡ octets_of a ++ replicate 12 0) × (held.length ≡ 4)
HoldsAddress held (addresses.V6 a) = (held.octets ≡ octets_of_v6 a) × (held.length ≡ 16)

-- the address that a struct represents, if it has 4 or 16 octets
abbrev pub held_address : AddressInC → Option IpAddr
held_address held =
    if held.length == 4 then Some (addresses.V4 (number_of_octets (take 4 held.octets)))
    else (if held.length == 16 then Some (addresses.V6 (number_of_octets held.octets)) else None)

-- the address that a text names is read; `address` if it names none
abbrev pub ReadsAddress : List ℕ → AddressInC → AddressInC → ℕ → Type 0
ReadsAddress text = Finds (NamesIp text) (IsFault address ((a : IpAddr) → ¬ (NamesIp text a)))
    (λ a. Writes (λ held. HoldsAddress held a))

-- the octets of the IPv4 address in an IPv4-mapped IPv6 address are written; `no_member` if x is not IPv4-mapped
abbrev pub WritesUnmapped : ℕ → List ℕ → List ℕ → ℕ → Type 0
WritesUnmapped x = Finds (λ a. unmapped (addresses.V6 x) ≡ addresses.V4 a)
    (IsFault no_member ((a : ℕ) → ¬ (unmapped (addresses.V6 x) ≡ addresses.V4 a)))
    (λ a. Writes (λ octets. octets ≡ octets_of a))

-- the struct represents no address, so the fault is `no_family`
abbrev pub NoAddress : AddressInC → ℕ → Type 0
NoAddress held = IsFault no_family (held_address held ≡ None)

-- the struct represents no network, for this reason
pub data NoIpNetwork (held : IpInC) (code : ℕ) : Type 0 where
  NoFamily : ip_in held ≡ None → code ≡ no_family → NoIpNetwork held code
  NoPrefix : (n : IpNetwork) → ip_in held ≡ Some n → ¬ (IpPrefixFits n) → code ≡ prefix → NoIpNetwork held code

-- the struct represents the network
pub record StandsForIp (held : IpInC) (n : IpNetwork) : Type 0 where
  pub told : ip_in held ≡ Some n
  pub fits : IpPrefixFits n

-- the call continues with the network that a struct represents
abbrev pub OfNetwork : {M : Type 0} → IpInC → (IpNetwork → M → M → ℕ → Type 0) → M → M → ℕ → Type 0
OfNetwork held GoesOn = Finds (StandsForIp held) (NoIpNetwork held) GoesOn

-- the call continues with the networks that two structs represent; the first struct is checked first
abbrev pub OfBoth : {M : Type 0} → IpInC → IpInC → (IpNetwork → IpNetwork → M → M → ℕ → Type 0) → M → M → ℕ → Type 0
OfBoth one other GoesOn = OfNetwork one (λ a. OfNetwork other (GoesOn a))

-- the address that `told` gives for the network that a struct represents is written
abbrev pub TellsAddress : (IpNetwork → IpAddr) → IpInC → AddressInC → AddressInC → ℕ → Type 0
TellsAddress told held = OfNetwork held (λ n. Writes (λ after. HoldsAddress after (told n)))

-- 1 is written if `Holds` is true of the networks that two structs represent, else 0
abbrev pub TellsOfBoth : (IpNetwork → IpNetwork → Type 0) → IpInC → IpInC → ℕ → ℕ → ℕ → Type 0
TellsOfBoth Holds one other = OfBoth one other (λ a b. Writes (IsFlag (Holds a b)))

-- 1 is written if the octets are a member of the network that a struct represents, else 0; the octets are checked
-- before the struct
abbrev pub MemberQuery : IpInC → List ℕ → ℕ → ℕ → ℕ → Type 0
MemberQuery held octets = Finds (λ a. address_in octets ≡ Some a) (IsFault no_family (address_in octets ≡ None))
    (λ a. OfNetwork held (λ n. Writes (IsFlag (IpMember n a))))
