-- The ranges into which the networks of a table divide the addresses, in the caller's memory: each range as a network
-- of its first address only, with the place of the longest network that has the range's addresses.
use Rattle.std.specs.Prelude.{◌≡◌, ℕ, ◌+◌, ◌-◌, ◌*◌, ◌^◌, ◌<◌, ◌≤◌, ◌⊎◌, List, [], ◌∷◌, drop, get_or, length, map, take}
use Rattle.std.specs.List.{All, AllPairs, Contains}
use Rattle.ipnetwork_family.specs.Network.{Network, low, high}
use Rattle.ipnetwork_blocks.specs.Aggregate.{InUnion}
use Rattle.ipnetwork_c.specs.Numbers.{short_buffer, no_member}
use Rattle.ipnetwork_c.specs.Held.{PrefixFits, number_of_octets}
use Rattle.ipnetwork_c.specs.Outcomes.{Writes, Unless, IsFault, Needs}
use Rattle.ipnetwork_c.specs.Answers.{IfFit}
use Rattle.ipnetwork_c.specs.Columns.{AsksEach}
use Rattle.ipnetwork_c.specs.Searches.{StandsAt}
use Rattle.ipnetwork_c.specs.Tables.{IsTable, FindsLongest}

-- the place that means no network: 2^64 - 1
abbrev pub no_place : ℕ
no_place = 2 ^ 64 - 1

-- the place of the last of the first i ranges, or `no_place` if i is 0
abbrev pub place_before : List ℕ → ℕ → ℕ
place_before places i = get_or (no_place ∷ places) i no_place

-- a is the first address of a network's set, or the address after its last
abbrev pub EndsAt : ℕ → Network → ℕ → Type 0
EndsAt w n a = (a ≡ low w n) ⊎ (a ≡ high w n + 1)

-- one of the networks begins at the address, or ends right before it
abbrev pub IsCut : ℕ → List Network → ℕ → Type 0
IsCut w networks a = (n : Network) × Contains networks n × EndsAt w n a

-- the place is that of the longest network that has the address x, the last of equal ones; or it is `no_place`, and if
-- the networks are a table, none has x
abbrev pub IsLongestAt : ℕ → List Network → ℕ → ℕ → Type 0
IsLongestAt w networks x place =
    ((place < no_place) × FindsLongest w networks x place)
    ⊎ ((place ≡ no_place) × (IsTable w networks → ¬ (InUnion w networks x)))

-- the ranges begin at the first address of each network and right after its last, and nowhere else, in ascending order.
-- The place of each range is that of the longest network that has its addresses. No network has an address before the
-- first range
pub record AreRangesOf (w : ℕ) (networks ranges : List Network) (places : List ℕ) : Type 0 where
  pub few : length ranges ≤ 2 * length networks
  pub rows : length places ≡ length ranges
  pub alone : All (λ n. n.prefix ≡ w) ranges
  pub ascending : AllPairs (λ a b. a.address ≤ b.address) ranges
  pub cut : (a : ℕ) → a < 2 ^ w → IsCut w networks a → Contains (map (λ n. n.address) ranges) a
  pub only : (a : ℕ) → Contains (map (λ n. n.address) ranges) a → IsCut w networks a
  pub answers : (x i : ℕ) → x < 2 ^ w → StandsAt ranges x i → IsLongestAt w networks x (place_before places i)

-- the same, and each range has the place of the longest network that has its first address, even if the next range
-- begins there too
pub record AreMadeOf (w : ℕ) (networks ranges : List Network) (places : List ℕ) : Type 0 where
  pub ranges_of : AreRangesOf w networks ranges places
  pub each : (i : ℕ) → i < length ranges
      → IsLongestAt w networks (get_or (map (λ n. n.address) ranges) i 0) (get_or places i 0)

-- the ranges of a list and their places are put in the front of two lists, if both have room for two for each network,
-- and the number of ranges is written
abbrev pub MakesRanges : {C : Type 0} → ℕ → (C → Network) → List C → (List C × List ℕ) × ℕ → (List C × List ℕ) × ℕ → ℕ
    → Type 0
MakesRanges w held list before =
    IfFit (All (λ c. PrefixFits w (held c)) list)
    (Needs ((2 * length list ≤ length before.0.0) × (2 * length list ≤ length before.0.1)) short_buffer
    (Writes (λ after. (length after.0.0 ≡ length before.0.0) × (length after.0.1 ≡ length before.0.1)
    × (after.1 ≤ length before.0.0)
    × AreMadeOf w (map held list) (map held (take after.1 after.0.0)) (take after.1 after.0.1)
    × (drop after.1 after.0.0 ≡ drop after.1 before.0.0) × (drop after.1 after.0.1 ≡ drop after.1 before.0.1)))) before

-- the number at a place, or `no_place` if there is none
abbrev pub number_at : List ℕ → ℕ → ℕ
number_at numbers place = get_or numbers place no_place

-- the same, but with the number at its place in `numbers` for each range, if each network of the list has a number
abbrev pub MakesNumberedRanges : {C : Type 0} → ℕ → (C → Network) → List C → List ℕ → (List C × List ℕ) × ℕ
    → (List C × List ℕ) × ℕ → ℕ → Type 0
MakesNumberedRanges w held list numbers =
    Needs (length list ≤ length numbers) short_buffer
    (IfFit (All (λ c. PrefixFits w (held c)) list)
    (λ before. Needs ((2 * length list ≤ length before.0.0) × (2 * length list ≤ length before.0.1)) short_buffer
    (Writes (λ after. (length after.0.0 ≡ length before.0.0) × (length after.0.1 ≡ length before.0.1)
    × (after.1 ≤ length before.0.0)
    × ((places : List ℕ) × AreMadeOf w (map held list) (map held (take after.1 after.0.0)) places
    × (take after.1 after.0.1 ≡ map (number_at numbers) places))
    × (drop after.1 after.0.0 ≡ drop after.1 before.0.0) × (drop after.1 after.0.1 ≡ drop after.1 before.0.1)))
    before))

-- the place is that of the last range that begins at or before the address, or `no_place` if there is no such range
abbrev pub PlaceQuery : {C : Type 0} → (C → Network) → List C → List ℕ → ℕ → ℕ → Type 0
PlaceQuery held ranges places x place = (i : ℕ) × StandsAt (map held ranges) x i × (place ≡ place_before places i)

-- the place of the last range that begins at or before the address is written; `no_member` if there is no such range
-- or its place is `no_place`
abbrev pub RangeQuery : {C : Type 0} → (C → Network) → List C → List ℕ → ℕ → ℕ → ℕ → ℕ → Type 0
RangeQuery held ranges places x before after code =
    (i : ℕ) × StandsAt (map held ranges) x i × Unless (IsFault no_member (place_before places i ≡ no_place))
    (Writes (λ place. (place < no_place) × (place ≡ place_before places i))) before after code

-- each address gets the place and fault of the call for one address, if there is room for all of them
abbrev pub RangeRows : {C : Type 0} → (C → Network) → List C → List ℕ → List (List ℕ) → List ℕ × List ℕ → List ℕ
    × List ℕ → ℕ → Type 0
RangeRows held ranges places = AsksEach [] (λ octets. RangeQuery held ranges places (number_of_octets octets))
