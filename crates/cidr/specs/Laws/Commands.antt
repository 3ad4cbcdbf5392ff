-- The laws of the commands: the answer to a line or its request to the routes, in terms of texts, networks and sets.
use Rattle.std.specs.Prelude.{◌≡◌, ◌≢◌, ◌↔◌, ℕ, ◌+◌, ◌<◌, ◌≤◌, List, [], ◌∷◌, ◌++◌, Contains, length, codes, decimal}
use Rattle.ipnetwork_addr.specs.Either.{NamesIp, canonical_ip, IsAddrAtMost}
use Rattle.ipnetwork_addr.specs.Ipv4Text.{NamesV4, canonical_v4}
use Rattle.ipnetwork_addr.specs.Computed.Ipv6Canonical.{canonical_v6}
use Rattle.ipnetwork_addr.specs.Ipv6Text.{NamesV6}
use Rattle.ipnetwork_addr.specs.declared.ip.IpAddr.{IpAddr}
use Rattle.ipnetwork_family.specs.Ipv4NetworkText.{IsV4Suffix, NamesV4Network}
use Rattle.ipnetwork_family.specs.Ipv6NetworkText.{IsV6Suffix}
use Rattle.ipnetwork_family.specs.Network.{Network, Member}
use Rattle.ipnetwork_family.specs.NetworkText.{HasSeveralSlashes, slashes, before_slash, NamesNetwork, network_text}
use Rattle.ipnetwork_family.specs.PrefixNumber.{IsPrefixNumber, IsNoPrefixNumber}
use Rattle.ipnetwork.specs.IpNetworks.{IsIpNetwork, IpMember, IsIpMask, address_of, prefix_of, width_of, ip_members}
use Rattle.ipnetwork.specs.IpNetworkText.{NamesIpNetwork, ip_network_text}
use Rattle.ipnetwork.specs.declared.ip_network.IpNetwork.{IpNetwork}
use Rattle.cidr.specs.Laws.Sets.{Relates}
use Rattle.cidr.specs.Output.{MayGet}
use Rattle.cidr.specs.Requests.{Add, Drop, Find, request_of}
use Rattle.cidr.specs.Routes.{Routes}
use Rattle.cidr.specs.Words.{words, blank}

-- the line has these words and at most 1,024 bytes
abbrev pub HasWords : List ℕ → List (List ℕ) → Type 0
HasWords line these = (words line ≡ these) × (length line ≤ 1024)

-- whatever the routes are, the line gets exactly this answer and does not change them
abbrev pub IsAnswered : List ℕ → List ℕ → Type 0
IsAnswered line text = (before after : Routes) (answer : List ℕ)
    → MayGet before (request_of line) answer after ↔ ((answer ≡ text) × (after ≡ before))

-- ---- `read4 T` and `read6 T`

-- the canonical text of the network that T names in the family, or the first cause that applies if T names none
pub record AnswersRead (w : ℕ) (NamesAddress IsSuffix : List ℕ → ℕ → Type 0) (canonical : ℕ → List ℕ)
    (line text : List ℕ) : Type 0 where
  pub network : (n : Network) → NamesNetwork w NamesAddress IsSuffix text n → IsAnswered line (network_text canonical n)
  -- T contains two or more `/`
  pub format : HasSeveralSlashes text → IsAnswered line (codes "refused format")
  -- else the part before the `/` is not an address
  pub address : slashes text ≤ 1 → ((a : ℕ) → ¬ (NamesAddress (before_slash text) a))
      → IsAnswered line (codes "refused address")
  -- else the part after the `/` is not a suffix, because T names no network
  pub prefix : slashes text ≤ 1 → (a : ℕ) → NamesAddress (before_slash text) a
      → ((n : Network) → ¬ (NamesNetwork w NamesAddress IsSuffix text n))
      → IsAnswered line (codes "refused prefix")

abbrev pub Read4Law : Type 0
Read4Law = (line text : List ℕ) → HasWords line (codes "read4" ∷ text ∷ [])
    → AnswersRead 32 NamesV4 IsV4Suffix canonical_v4 line text

abbrev pub Read6Law : Type 0
Read6Law = (line text : List ℕ) → HasWords line (codes "read6" ∷ text ∷ [])
    → AnswersRead 128 NamesV6 IsV6Suffix canonical_v6 line text

-- ---- `read T` and `ends T`

-- the answer about the network of either family that T names, or `refused` if it names none
pub record AnswersNetwork (IsTold : IpNetwork → List ℕ → Type 0) (line text : List ℕ) : Type 0 where
  pub network : (n : IpNetwork) → IsIpNetwork n → NamesIpNetwork text n → (told : List ℕ) × IsTold n told
      × IsAnswered line told
  pub none : ((n : IpNetwork) → ¬ (NamesIpNetwork text n)) → IsAnswered line (codes "refused")

-- `read`: the canonical text
abbrev pub ReadLaw : Type 0
ReadLaw = (line text : List ℕ) → HasWords line (codes "read" ∷ text ∷ [])
    → AnswersNetwork (λ n told. told ≡ ip_network_text n) line text

-- `ends`: the lowest address, the highest address, the mask and the number of addresses, separated by blanks
pub record TellsEnds (n : IpNetwork) (told : List ℕ) : Type 0 where
  pub least : IpAddr
  pub greatest : IpAddr
  pub mask : IpAddr
  pub number : ℕ
  pub text : told ≡ canonical_ip least ++ blank ∷ canonical_ip greatest ++ blank ∷ canonical_ip mask ++ blank
      ∷ decimal number
  pub is_least : IpMember n least × ((x : IpAddr) → IpMember n x → IsAddrAtMost least x)
  pub is_greatest : IpMember n greatest × ((x : IpAddr) → IpMember n x → IsAddrAtMost x greatest)
  pub is_mask : IsIpMask mask (prefix_of n) × (width_of mask ≡ width_of (address_of n))
  pub is_number : prefix_of n ≢ 0 → length (ip_members n) ≡ number
  -- at prefix length 0, the number is one less
  pub is_one_less : prefix_of n ≡ 0 → length (ip_members n) ≡ number + 1

abbrev pub EndsLaw : Type 0
EndsLaw = (line text : List ℕ) → HasWords line (codes "ends" ∷ text ∷ []) → AnswersNetwork TellsEnds line text

-- ---- `has4 T A` and `has T A`

-- whether the network that T names has the address that A names as a member. T is checked first
pub record AnswersMembership {N A : Type 0} (Names : List ℕ → N → Type 0) (NamesAddress : List ℕ → A → Type 0)
    (Holds : N → A → Type 0) (line text word : List ℕ) : Type 0 where
  pub yes : (n : N) (a : A) → Names text n → NamesAddress word a → Holds n a → IsAnswered line (codes "yes")
  pub no : (n : N) (a : A) → Names text n → NamesAddress word a → ¬ (Holds n a) → IsAnswered line (codes "no")
  pub no_network : ((n : N) → ¬ (Names text n)) → IsAnswered line (codes "refused network")
  pub no_address : (n : N) → Names text n → ((a : A) → ¬ (NamesAddress word a))
      → IsAnswered line (codes "refused address")

abbrev pub Has4Law : Type 0
Has4Law = (line text word : List ℕ) → HasWords line (codes "has4" ∷ text ∷ word ∷ [])
    → AnswersMembership NamesV4Network NamesV4 (Member 32) line text word

abbrev pub HasLaw : Type 0
HasLaw = (line text word : List ℕ) → HasWords line (codes "has" ∷ text ∷ word ∷ [])
    → AnswersMembership NamesIpNetwork NamesIp IpMember line text word

-- ---- `rel T U`

-- how the sets of the networks that T and U name are related
pub record AnswersRelation (line text other : List ℕ) : Type 0 where
  pub sets : (a b : IpNetwork) → IsIpNetwork a → IsIpNetwork b → NamesIpNetwork text a → NamesIpNetwork other b
      → (told : List ℕ) × Relates told a b × IsAnswered line told
  pub no_first : ((a : IpNetwork) → ¬ (NamesIpNetwork text a)) → IsAnswered line (codes "refused")
  pub no_second : ((b : IpNetwork) → ¬ (NamesIpNetwork other b)) → IsAnswered line (codes "refused")

abbrev pub RelLaw : Type 0
RelLaw = (line text other : List ℕ) → HasWords line (codes "rel" ∷ text ∷ other ∷ []) → AnswersRelation line text other

-- ---- `add T N`, `drop T` and `find A`: their requests to the routes, or `refused` if T, N or A names nothing

pub record AsksAdd (line text word : List ℕ) : Type 0 where
  pub asks : (n : IpNetwork) (number : ℕ) → NamesIpNetwork text n → IsPrefixNumber word number → number ≤ 4294967295
      → request_of line ≡ Add n number
  pub no_network : ((n : IpNetwork) → ¬ (NamesIpNetwork text n)) → IsAnswered line (codes "refused")
  pub no_number : IsNoPrefixNumber word 4294967295 → IsAnswered line (codes "refused")

abbrev pub AddLaw : Type 0
AddLaw = (line text word : List ℕ) → HasWords line (codes "add" ∷ text ∷ word ∷ []) → AsksAdd line text word

pub record AsksDrop (line text : List ℕ) : Type 0 where
  pub asks : (n : IpNetwork) → NamesIpNetwork text n → request_of line ≡ Drop n
  pub no_network : ((n : IpNetwork) → ¬ (NamesIpNetwork text n)) → IsAnswered line (codes "refused")

abbrev pub DropLaw : Type 0
DropLaw = (line text : List ℕ) → HasWords line (codes "drop" ∷ text ∷ []) → AsksDrop line text

pub record AsksFind (line word : List ℕ) : Type 0 where
  pub asks : (a : IpAddr) → NamesIp word a → request_of line ≡ Find a
  pub no_address : ((a : IpAddr) → ¬ (NamesIp word a)) → IsAnswered line (codes "refused")

abbrev pub FindLaw : Type 0
FindLaw = (line word : List ℕ) → HasWords line (codes "find" ∷ word ∷ []) → AsksFind line word

-- ---- all other lines

-- the names of the commands that take one word, and of those that take two
abbrev pub names_before_one : List (List ℕ)
names_before_one = codes "read" ∷ codes "read4" ∷ codes "read6" ∷ codes "ends" ∷ codes "drop" ∷ codes "find" ∷ []

abbrev pub names_before_two : List (List ℕ)
names_before_two = codes "has" ∷ codes "has4" ∷ codes "rel" ∷ codes "add" ∷ []

-- the words are the name of a command and as many other words as it takes
abbrev pub IsCommand : List (List ℕ) → Type 0
IsCommand (name ∷ word ∷ []) = Contains names_before_one name
IsCommand (name ∷ first ∷ second ∷ []) = Contains names_before_two name
IsCommand _ = ⊥

-- a line that is not one of the ten commands with the right number of words gets `unknown command`
abbrev pub UnknownLaw : Type 0
UnknownLaw = (line : List ℕ) → length line ≤ 1024 → ¬ (IsCommand (words line))
    → IsAnswered line (codes "unknown command")

-- a line of more than 1,024 bytes gets `line too long`
abbrev pub LongLaw : Type 0
LongLaw = (line : List ℕ) → 1024 < length line → IsAnswered line (codes "line too long")
