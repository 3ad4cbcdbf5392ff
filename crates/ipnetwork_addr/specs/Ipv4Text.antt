-- Which texts name an IPv4 address, and which of them is canonical: the dotted decimal form of RFC 3986, section 3.2.2
-- (`IPv4address` and `dec-octet`).
use Rattle.std.specs.Prelude.{◌≡◌, ℕ, ◌≤◌, List, length, map, slice_index, decimal}
use Rattle.std.specs.List.{join_with_byte}
use Rattle.std.specs.Int.Digits.{number_from_digits}
use Rattle.std.specs.Str.Parse.{IsNumeral, digits_value}
use Rattle.ipnetwork_addr.specs.Digits.{octets_of}
use Rattle.ipnetwork_addr.specs.Texts.{dot, IsJoined}

-- the shortest decimal form of a number up to 255
abbrev pub IsOctet : List ℕ → ℕ → Type 0
IsOctet text n = (n ≤ 255) × (text ≡ decimal n)

-- an octet in elementary terms: one to three decimal digits without a leading zero, whose value n is at most 255
pub record IsPlainOctet (text : List ℕ) (n : ℕ) : Type 0 where
  pub digits : IsNumeral 10 text
  pub short : length text ≤ 3
  pub value : digits_value 10 text ≡ n
  pub bound : n ≤ 255
  pub no_leading_zero : slice_index text 0 ≡ 48 → length text ≡ 1

-- four octets joined by dots, the digits of the address in base 256
pub record NamesV4 (text : List ℕ) (address : ℕ) : Type 0 where
  pub octets : List ℕ
  pub joined : IsJoined dot IsOctet text octets
  pub four : length octets ≡ 4
  pub value : address ≡ number_from_digits 256 octets

-- the canonical text of an address: four shortest decimals joined by dots
abbrev pub canonical_v4 : ℕ → List ℕ
canonical_v4 address = join_with_byte dot (map decimal (octets_of address))
