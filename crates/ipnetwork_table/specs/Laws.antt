-- The laws of tables, for addresses of any number of bits and values of any type.
use Rattle.std.specs.Prelude.{◌≡◌, ◌≢◌, ℕ, ◌<◌, Option, None, Some, slice_get}
use Rattle.std.specs.FinMap.{FinMap, empty, get, insert, remove, entries}
use Rattle.ipnetwork_family.specs.Network.{Network, HostBitsAreZero, Member, Subnet, IsNetworkBefore, block_of}
use Rattle.ipnetwork_family.specs.Network.{network_cmp}
use Rattle.ipnetwork_table.specs.Table.{HasOnlyBlocks, HasNoHostBits, Answers}
use Rattle.ipnetwork_table.specs.Computed.Longest.{longest_of}

-- two blocks with the same prefix length that share an address are equal, for any number of bits
abbrev pub BlocksOfAnyWidthThatMeet : Type 0
BlocksOfAnyWidthThatMeet = (w : ℕ) (m n : Network) (x : ℕ) → HostBitsAreZero w m → HostBitsAreZero w n
    → m.prefix ≡ n.prefix → Member w m x → Member w n x → m ≡ n

module _ (V : Type 0) where
  -- the longest entry that holds the address, which can be computed, is the result of a look-up, whatever the keys are
  abbrev pub AnswerIsComputed : Type 0
  AnswerIsComputed = (w : ℕ) (t : FinMap network_cmp V) (x : ℕ) → Answers w t x (longest_of w x (entries t))

  -- if all keys are blocks, a look-up has a result for each address
  abbrev pub AnswerExists : Type 0
  AnswerExists = (w : ℕ) (t : FinMap network_cmp V) (x : ℕ) → HasOnlyBlocks w t → (answer : Option (Network × V))
      × Answers w t x answer

  -- if no key has host bits, a look-up has only one result for each address
  abbrev pub AnswerIsOne : Type 0
  AnswerIsOne = (w : ℕ) (t : FinMap network_cmp V) (x : ℕ) (a b : Option (Network × V)) → HasNoHostBits w t
      → Answers w t x a → Answers w t x b → a ≡ b

  -- no key of the empty table has host bits
  abbrev pub EmptyHasNoHostBits : Type 0
  EmptyHasNoHostBits = (w : ℕ) → HasNoHostBits w (empty {X = V} {R = network_cmp})

  -- if no key has host bits, none has after the block of a network is inserted
  abbrev pub InsertAddsNoHostBits : Type 0
  InsertAddsNoHostBits = (w : ℕ) (t : FinMap network_cmp V) (n : Network) (v : V) → HasNoHostBits w t
      → HasNoHostBits w (insert t (block_of w n) v)

  -- if no key has host bits, none has after a network is removed
  abbrev pub RemoveAddsNoHostBits : Type 0
  RemoveAddsNoHostBits = (w : ℕ) (t : FinMap network_cmp V) (n : Network) → HasNoHostBits w t
      → HasNoHostBits w (remove t n)

  -- an insertion sets the value of one network and leaves all others unchanged
  abbrev pub InsertSetsOne : Type 0
  InsertSetsOne = (t : FinMap network_cmp V) (n : Network) (v : V) → (get (insert t n v) n ≡ Some v)
      × ((m : Network) → m ≢ n → get (insert t n v) m ≡ get t m)

  -- a removal takes away the value of one network and leaves all others unchanged
  abbrev pub RemoveTakesOne : Type 0
  RemoveTakesOne = (t : FinMap network_cmp V) (n : Network) → (get (remove t n) n ≡ None)
      × ((m : Network) → m ≢ n → get (remove t n) m ≡ get t m)

  -- each listed block is stored with the listed value
  abbrev pub ListedIsStored : Type 0
  ListedIsStored = (t : FinMap network_cmp V) (i : ℕ) (n : Network) (v : V) → slice_get (entries t) i ≡ Some (n, v)
      → get t n ≡ Some v

  -- each stored block is listed with its value
  abbrev pub StoredIsListed : Type 0
  StoredIsListed = (t : FinMap network_cmp V) (n : Network) (v : V) → get t n ≡ Some v → (i : ℕ)
      × (slice_get (entries t) i ≡ Some (n, v))

  -- the entries are listed in the order of networks
  abbrev pub EntriesAscend : Type 0
  EntriesAscend = (t : FinMap network_cmp V) (i j : ℕ) (d e : Network × V) → slice_get (entries t) i ≡ Some d
      → slice_get (entries t) j ≡ Some e → i < j
      → IsNetworkBefore d.0 e.0

  -- no block lies in one that is listed after it
  abbrev pub WiderBlocksFirst : Type 0
  WiderBlocksFirst = (w : ℕ) (t : FinMap network_cmp V) (i j : ℕ) (d e : Network × V) → HasOnlyBlocks w t
      → slice_get (entries t) i ≡ Some d → slice_get (entries t) j ≡ Some e → i < j → ¬ (Subnet w d.0 e.0)
