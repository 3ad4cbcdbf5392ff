-- Which texts name an IPv6 address: the three forms of RFC 4291, section 2.2.
use Rattle.std.specs.Prelude.{◌≡◌, ℕ, ◌+◌, ◌/◌, ◌%◌, ◌^◌, ◌≤◌, ◌⊎◌, List, [], ◌∷◌, ◌++◌, length, replicate, codes}
use Rattle.std.specs.List.{join_with_byte, AllZip}
use Rattle.std.specs.Int.Digits.{number_from_digits}
use Rattle.std.specs.Str.Parse.{IsNumeral, digits_value}
use Rattle.ipnetwork_addr.specs.Ipv4Text.{NamesV4}
use Rattle.ipnetwork_addr.specs.Texts.{colon, IsJoined}

-- one to four hex digits of either case, and their value
pub record IsGroup (text : List ℕ) (group : ℕ) : Type 0 where
  pub digits : IsNumeral 16 text
  pub short : length text ≤ 4
  pub value : group ≡ digits_value 16 text

-- groups joined by colons, or an empty text
abbrev pub IsPlain : List ℕ → List ℕ → Type 0
IsPlain text groups = IsJoined colon IsGroup text groups

-- the two groups with the bits of an IPv4 address
abbrev pub two_groups : ℕ → List ℕ
two_groups address = address / 2 ^ 16 ∷ address % 2 ^ 16 ∷ []

-- groups followed by an IPv4 text, all joined by colons
pub record IsDotted (text groups : List ℕ) : Type 0 where
  pub parts : List (List ℕ)
  pub front : List ℕ
  pub last : List ℕ
  pub address : ℕ
  pub spelled : text ≡ join_with_byte colon (parts ++ last ∷ [])
  pub named : AllZip IsGroup parts front
  pub dotted : NamesV4 last address
  pub value : groups ≡ front ++ two_groups address

-- groups joined by colons, the last two possibly written as an IPv4 text
abbrev pub IsEnded : List ℕ → List ℕ → Type 0
IsEnded text groups = IsPlain text groups ⊎ IsDotted text groups

-- an address with all eight groups written
pub record IsFull (text : List ℕ) (address : ℕ) : Type 0 where
  pub groups : List ℕ
  pub ended : IsEnded text groups
  pub eight : length groups ≡ 8
  pub value : address ≡ number_from_digits (2 ^ 16) groups

-- an address with some zero groups left out: `::` replaces as many as are missing from eight
pub record IsCompressed (text : List ℕ) (address : ℕ) : Type 0 where
  pub before : List ℕ
  pub behind : List ℕ
  pub high : List ℕ
  pub low : List ℕ
  pub missing : ℕ
  pub split : text ≡ before ++ codes "::" ++ behind
  pub high_groups : IsPlain before high
  pub low_groups : IsEnded behind low
  pub some_missing : 1 ≤ missing
  pub eight : length high + missing + length low ≡ 8
  pub value : address ≡ number_from_digits (2 ^ 16) (high ++ replicate missing 0 ++ low)

-- the text names the address: it has all eight groups, or some of them and a `::`
abbrev pub NamesV6 : List ℕ → ℕ → Type 0
NamesV6 text address = IsFull text address ⊎ IsCompressed text address
