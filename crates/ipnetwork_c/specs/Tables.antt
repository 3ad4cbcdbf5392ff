-- Tables of blocks in the caller's memory.
use Rattle.std.specs.Prelude.{◌≡◌, ℕ, ◌+◌, ◌<◌, ◌≤◌, List, [], ◌++◌, drop, length, map, slice_index, slice_index_or}
use Rattle.std.specs.List.{All, AllPairs, range_with_len}
use Rattle.std.specs.List.Sorted.{IsPermutation}
use Rattle.ipnetwork_family.specs.Network.{Network, IsCidrBlock, IsNetworkAtMost, Member, block_of}
use Rattle.ipnetwork_blocks.specs.Aggregate.{InUnion}
use Rattle.ipnetwork_c.specs.Numbers.{short_buffer, no_member}
use Rattle.ipnetwork_c.specs.Held.{PrefixFits, number_of_octets}
use Rattle.ipnetwork_c.specs.Outcomes.{Writes, Unless, IsFault, Needs}
use Rattle.ipnetwork_c.specs.Answers.{IfFit}
use Rattle.ipnetwork_c.specs.Columns.{AsksEach}
use Rattle.ipnetwork_c.specs.Searches.{ComesTo, LastFits}

-- the networks are blocks in ascending order, by address and then by prefix length; some may contain others
pub record IsTable (w : ℕ) (networks : List Network) : Type 0 where
  pub blocks : All (IsCidrBlock w) networks
  pub ascending : AllPairs IsNetworkAtMost networks

-- the network at index i has the address x. If the networks are a table, none with x has a longer prefix length, and
-- none after index i has x: of equal networks it is the last
pub record FindsLongest (w : ℕ) (networks : List Network) (x i : ℕ) : Type 0 where
  pub within : i < length networks
  pub one : (d : Network) → Member w (slice_index_or networks i d) x
  pub longest : IsTable w networks → (k : ℕ) (d : Network) → k < length networks
      → Member w (slice_index_or networks k d) x
      → (slice_index_or networks k d).prefix ≤ (slice_index_or networks i d).prefix
  pub last : IsTable w networks → (k : ℕ) (d : Network) → i < k → k < length networks
      → ¬ (Member w (slice_index_or networks k d) x)

-- the index of the longest block with the address is written, or the fault is `no_member` if there is none, provided
-- that the prefix length of the last network that the search reaches fits
abbrev pub TableQuery : {C : Type 0} → ℕ → (C → Network) → List C → ℕ → ℕ → ℕ → ℕ → Type 0
TableQuery w held list x before after code =
    (i : ℕ) × ComesTo w (map held list) x i × IfFit (LastFits w (map held list) i)
    (Unless (IsFault no_member ((i ≡ 0) × (IsTable w (map held list) → ¬ (InUnion w (map held list) x))))
    (Writes (λ index. (i ≡ index + 1) × FindsLongest w (map held list) x index)))
    before after code

-- each address gets the index and fault of the call for one address, if there is room for all of them
abbrev pub TableRows : {C : Type 0} → ℕ → (C → Network) → List C → List (List ℕ) → List ℕ × List ℕ → List ℕ × List ℕ → ℕ
    → Type 0
TableRows w held list = AsksEach [] (λ octets. TableQuery w held list (number_of_octets octets))

-- the block of the network at this place; past the last place, the block of all addresses
abbrev pub row_block : ℕ → List Network → ℕ → Network
row_block w networks place = block_of w (slice_index_or networks place (record { address = 0; prefix = 0 }))

-- the blocks of the networks, one for each, in the order of a table, and for each the place of its network; equal
-- blocks are in the order of their networks
pub record IsTableOf (w : ℕ) (networks blocks : List Network) (places : List ℕ) : Type 0 where
  pub once : IsPermutation (range_with_len 0 (length networks)) places
  pub rows : length blocks ≡ length networks
  pub block : (i : ℕ) (d : Network) → i < length blocks
      → slice_index_or blocks i d ≡ row_block w networks (slice_index places i)
  pub table : IsTable w blocks
  pub equal : (i j : ℕ) (d : Network) → i < j → j < length blocks
      → slice_index_or blocks i d ≡ slice_index_or blocks j d → slice_index places i ≤ slice_index places j

-- the table of networks, blocks and places, is put in the front of two lists, if both have room
abbrev pub MakesTable : {C : Type 0} → ℕ → (C → Network) → List C → List C × List ℕ → List C × List ℕ → ℕ → Type 0
MakesTable {C} w held networks before =
    IfFit (All (λ c. PrefixFits w (held c)) networks)
    (Needs ((length networks ≤ length before.0) × (length networks ≤ length before.1)) short_buffer
    (Writes (λ after. (rows : List C) × (order : List ℕ) × IsTableOf w (map held networks) (map held rows) order
    × (after.0 ≡ rows ++ drop (length networks) before.0)
    × (after.1 ≡ order ++ drop (length networks) before.1)))) before
