-- Which texts name a network, and why a text is refused, for either family. CIDR notation is an address, `/` and a
-- suffix (RFC 4632, section 3.1; RFC 4291, section 2.3).
use Rattle.std.specs.Prelude.{◌≡◌, ℕ, ◌≤◌, ◌⊎◌, ◌==◌, List, ◌∷◌, ◌++◌, Option, None, Some, Result, MatchResult, decimal}
use Rattle.std.specs.Prelude.{count_by}
use Rattle.std.specs.List.{before_first}
use Rattle.ipnetwork_addr.specs.Texts.{IsAddressByte}
use Rattle.ipnetwork_family.specs.Network.{Network}
use Rattle.ipnetwork_family.specs.declared.error.CidrFault.{CidrFault}
use Rattle.ipnetwork_family.specs.declared.error.CidrFault.TheVariants.{Format, Addr, Prefix}

-- `b'/'`
abbrev pub slash : ℕ
slash = 47

-- the number of `/` in a text
abbrev pub slashes : List ℕ → ℕ
slashes text = count_by (λ byte. byte == slash) text

-- the text has two or more `/`
abbrev pub HasSeveralSlashes : List ℕ → Type 0
HasSeveralSlashes text = 2 ≤ slashes text

-- the part before the only `/` and the part after it, or the whole text if there is none
abbrev pub IsSplit : List ℕ → List ℕ → Option (List ℕ) → Type 0
IsSplit text address None = (address ≡ text) × (slashes text ≡ 0)
IsSplit text address (Some suffix) =
    (text ≡ address ++ slash ∷ suffix) × (slashes address ≡ 0) × (slashes suffix ≡ 0)

-- the part before the first `/`, or the whole text if there is none
abbrev pub before_slash : List ℕ → List ℕ
before_slash text = before_first (λ byte. byte == slash) text

-- the text is an address, or an address, `/` and a suffix; without a suffix the prefix length is w
pub data NamesNetwork (w : ℕ) (NamesAddress IsSuffix : List ℕ → ℕ → Type 0) (text : List ℕ)
    (n : Network) : Type 0 where
  Alone : NamesAddress text n.address → n.prefix ≡ w → NamesNetwork w NamesAddress IsSuffix text n
  Suffixed : (address suffix : List ℕ) → text ≡ address ++ slash ∷ suffix
      → NamesAddress address n.address → IsSuffix suffix n.prefix
      → NamesNetwork w NamesAddress IsSuffix text n

-- the text contains a `/`, and the part after the first one is not a suffix
abbrev pub HasNoSuffix : (List ℕ → ℕ → Type 0) → List ℕ → Type 0
HasNoSuffix IsSuffix text =
    (suffix : List ℕ) × (text ≡ before_slash text ++ slash ∷ suffix)
    × ((p : ℕ) → ¬ (IsSuffix suffix p))

-- why a text that names no network is refused: the first cause that applies
abbrev pub IsCause : (List ℕ → ℕ → Type 0) → (List ℕ → ℕ → Type 0) → List ℕ → CidrFault → Type 0
-- the text contains two or more `/`
IsCause NamesAddress IsSuffix text Format = HasSeveralSlashes text
-- otherwise, the part before the `/` is not an address
IsCause NamesAddress IsSuffix text Addr =
    (slashes text ≤ 1) × ((a : ℕ) → ¬ (NamesAddress (before_slash text) a))
-- otherwise, the part after the `/` is not a suffix
IsCause NamesAddress IsSuffix text Prefix =
    (slashes text ≤ 1) × ((a : ℕ) × NamesAddress (before_slash text) a) × HasNoSuffix IsSuffix text

-- the network that the text names, or the cause if it names none
abbrev pub ReadsNetwork : ℕ → (List ℕ → ℕ → Type 0) → (List ℕ → ℕ → Type 0) → List ℕ
    → Result Network CidrFault → Type 0
ReadsNetwork w NamesAddress IsSuffix text result =
    MatchResult result (NamesNetwork w NamesAddress IsSuffix text)
    (λ fault. IsCause NamesAddress IsSuffix text fault
    × ((n : Network) → ¬ (NamesNetwork w NamesAddress IsSuffix text n)))

-- the text printed for a network: the canonical address, `/` and the shortest decimal of
-- the prefix length
abbrev pub network_text : (ℕ → List ℕ) → Network → List ℕ
network_text canonical n = canonical n.address ++ slash ∷ decimal n.prefix

-- a hex digit, `.`, `:` or `/`
abbrev pub IsNetworkByte : ℕ → Type 0
IsNetworkByte byte = IsAddressByte byte ⊎ (byte ≡ slash)
