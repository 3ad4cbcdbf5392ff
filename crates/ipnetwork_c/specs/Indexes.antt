-- Indexes of lists of networks, in the caller's memory: 32-bit numbers that say where the search for an address
-- begins.
use Rattle.std.specs.Prelude.{◌≡◌, ℕ, ◌+◌, ◌-◌, ◌*◌, ◌/◌, ◌^◌, ◌<◌, ◌≤◌, min, List, [], length, map, get_or, slice_get}
use Rattle.std.specs.Prelude.{Some}
use Rattle.std.specs.List.{All}
use Rattle.ipnetwork_family.specs.Network.{Network}
use Rattle.ipnetwork_sets.specs.Sets.{IsAddressSet}
use Rattle.ipnetwork_c.specs.Answers.{IfFit}
use Rattle.ipnetwork_c.specs.Held.{number_of_octets, PrefixFits}
use Rattle.ipnetwork_c.specs.Numbers.{no_set}
use Rattle.ipnetwork_c.specs.Outcomes.{Needs, Writes}
use Rattle.ipnetwork_c.specs.Columns.{AsksEach}
use Rattle.ipnetwork_c.specs.Lists.{SetQuery}

-- the address of the network at this place, or 0 if there is none
abbrev pub address_at : List Network → ℕ → ℕ
address_at networks place = (get_or networks place (record { address = 0; prefix = 0 })).address

-- how far the address of the last network is past that of the first, and 0 if it is not
abbrev pub span : List Network → ℕ
span networks = address_at networks (length networks - 1) - address_at networks 0

-- the last of the first i networks, if any, begins before the number, and the next network, if any, does not: if the
-- addresses ascend, i networks begin before the number
pub record BeginBefore (networks : List Network) (number i : ℕ) : Type 0 where
  pub within : i ≤ length networks
  pub last : (n : Network) → 0 < i → slice_get networks (i - 1) ≡ Some n → n.address < number
  pub next : (n : Network) → slice_get networks i ≡ Some n → number ≤ n.address

-- `count` parts of 2 ^ shift numbers each cover the span from the first address to the last; smaller parts do not
pub record AreLeastParts (networks : List Network) (count shift : ℕ) : Type 0 where
  pub enough : span networks / 2 ^ shift < count
  pub least : (smaller : ℕ) → smaller < shift → count ≤ span networks / 2 ^ smaller

-- the index of networks has one number for each part. The first number is the binary logarithm of the parts' size; each
-- other is how many networks begin before its part, at most 2^32 - 1
pub record IsIndexOf (networks : List Network) (index : List ℕ) : Type 0 where
  pub size : 0 < length index → AreLeastParts networks (length index) (get_or index 0 0)
  pub starts : (part : ℕ) → 0 < part → part < length index → (i : ℕ)
      × BeginBefore networks (address_at networks 0 + part * 2 ^ get_or index 0 0) i
      × (get_or index part 0 ≡ min i (2 ^ 32 - 1))

-- the index of a list is written over the whole of the index memory
abbrev pub MakesIndex : {C : Type 0} → (C → Network) → List C → List ℕ → List ℕ → ℕ → Type 0
MakesIndex held list before = Writes (λ index. (length index ≡ length before) × IsIndexOf (map held list) index) before

-- the same if the list is that of a set; else the index memory is unchanged, with `prefix` if a prefix length is
-- greater than w, and otherwise `no_set`
abbrev pub MakesSetIndex : {C : Type 0} → ℕ → (C → Network) → List C → List ℕ → List ℕ → ℕ → Type 0
MakesSetIndex w held list = IfFit (All (λ c. PrefixFits w (held c)) list)
    (Needs (IsAddressSet w (map held list)) no_set (MakesIndex held list))

-- each address gets the result and fault of the call for one address, if there is room for all of them
abbrev pub SetRows : {C : Type 0} → ℕ → (C → Network) → List C → List (List ℕ) → List ℕ × List ℕ → List ℕ × List ℕ → ℕ
    → Type 0
SetRows w held list = AsksEach [] (λ octets. SetQuery w held list (number_of_octets octets))
