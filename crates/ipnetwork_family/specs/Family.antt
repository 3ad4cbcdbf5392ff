-- What differs between the networks of address families: how addresses and prefix lengths are spelled, and the error
-- for a text that is not an address.
use Rattle.std.specs.Prelude.{◌≡◌, ℕ, ◌+◌, ◌^◌, ◌<◌, ◌≤◌, List, Result, decimal}
use Rattle.std.specs.List.{AllByRecursion}
use Rattle.ipnetwork_addr.specs.Texts.{IsAddressByte}
use Rattle.ipnetwork_addr.specs.Ipv4Text.{NamesV4, canonical_v4}
use Rattle.ipnetwork_addr.specs.Ipv6Text.{NamesV6}
use Rattle.ipnetwork_addr.specs.Computed.Ipv6Canonical.{canonical_v6}
use Rattle.ipnetwork_addr.specs.declared.error.AddrParseError.{AddrParseError}
use Rattle.ipnetwork_addr.specs.declared.error.AddrParseError.TheVariants as kinds
use Rattle.ipnetwork_family.specs.Network.{Network}
use Rattle.ipnetwork_family.specs.NetworkText.{slashes, NamesNetwork, IsCause, ReadsNetwork, network_text}
use Rattle.ipnetwork_family.specs.Ipv4NetworkText.{IsV4Suffix}
use Rattle.ipnetwork_family.specs.Ipv6NetworkText.{IsV6Suffix}
use Rattle.ipnetwork_family.specs.Parsing.{Parses}
use Rattle.ipnetwork_family.specs.declared.error.CidrFault.{CidrFault}
use Rattle.ipnetwork_family.specs.declared.error.IpNetworkError.{IpNetworkError}

-- an address family with addresses of w bits
pub record Family (w : ℕ) : Type 1 where
  -- the text names the address of this number
  pub NamesAddress : List ℕ → ℕ → Type 0
  -- after a `/`, the text gives this prefix length
  pub IsSuffix : List ℕ → ℕ → Type 0
  -- the text printed for the address of this number
  pub canonical : ℕ → List ℕ
  -- the error for a text that names no address
  pub refusal : AddrParseError
  -- the greatest length of a canonical text in bytes, and that of a prefix length in digits
  pub address_length : ℕ
  pub prefix_digits : ℕ

-- the texts of a family are unambiguous: each names at most one address or prefix length, and a printed text names what
-- was printed
pub record HasClearTexts (w : ℕ) (family : Family w) : Type 0 where
  -- a text names at most one address, and has only bytes that occur in addresses
  pub one_address : (text : List ℕ) (a b : ℕ) → family.NamesAddress text a
      → family.NamesAddress text b → a ≡ b
  pub address_bytes : (text : List ℕ) (a : ℕ) → family.NamesAddress text a
      → AllByRecursion IsAddressByte text
  -- a suffix gives at most one prefix length, and contains no `/`
  pub one_length : (text : List ℕ) (p q : ℕ) → family.IsSuffix text p
      → family.IsSuffix text q → p ≡ q
  pub no_slash : (text : List ℕ) (p : ℕ) → family.IsSuffix text p → slashes text ≡ 0
  -- a printed address names that address, and a printed prefix length gives that prefix length
  pub canonical_names : (a : ℕ) → a < 2 ^ w → family.NamesAddress (family.canonical a) a
  pub decimal_gives : (p : ℕ) → p ≤ w → family.IsSuffix (decimal p) p

-- the families of IPv4 and IPv6
abbrev pub v4_family : Family 32
v4_family = record {
  NamesAddress = NamesV4;
  IsSuffix = IsV4Suffix;
  canonical = canonical_v4;
  refusal = kinds.Ipv4;
  address_length = 15;
  prefix_digits = 2;
}

abbrev pub v6_family : Family 128
v6_family = record {
  NamesAddress = NamesV6;
  IsSuffix = IsV6Suffix;
  canonical = canonical_v6;
  refusal = kinds.Ipv6;
  address_length = 39;
  prefix_digits = 3;
}

-- ---- the definitions for texts of networks, for any family. For IPv4 and IPv6 they are the same as those of
-- Ipv4NetworkText, Ipv6NetworkText and Parsing

-- the text names the network
abbrev pub NamesNetworkOf : {w : ℕ} → Family w → List ℕ → Network → Type 0
NamesNetworkOf {w} family text n = NamesNetwork w family.NamesAddress family.IsSuffix text n

-- the result of reading the text
abbrev pub ReadsNetworkOf : {w : ℕ} → Family w → List ℕ → Result Network CidrFault → Type 0
ReadsNetworkOf {w} family text result =
    ReadsNetwork w family.NamesAddress family.IsSuffix text result

-- the result of parsing the text
abbrev pub ParsesNetworkOf : {w : ℕ} → Family w → List ℕ → Result Network IpNetworkError → Type 0
ParsesNetworkOf family text result =
    Parses (NamesNetworkOf family) (IsCause family.NamesAddress family.IsSuffix) family.refusal
    text result

-- the text printed for a network
abbrev pub text_of : {w : ℕ} → Family w → Network → List ℕ
text_of family n = network_text family.canonical n

-- the greatest length in bytes of the text of a network: the address, the `/` and the digits
abbrev pub text_length_of : {w : ℕ} → Family w → ℕ
text_length_of family = family.address_length + 1 + family.prefix_digits
