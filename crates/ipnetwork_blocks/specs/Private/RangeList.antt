-- The blocks of a range, listed by repeated halving: this is how contracts see an iterator over them. A clause of the
-- call that makes the iterator says that this is the least list.
use Rattle.std.specs.Prelude.{ℕ, zero, suc, ◌+◌, ◌-◌, ◌^◌, nat_le, ◌&&◌, cond, Bool, List, [], ◌∷◌, ◌++◌}
use Rattle.ipnetwork_family.specs.Network.{Network}

-- the range from first to last contains all of the size addresses that begin at base
abbrev pub has_all : ℕ → ℕ → ℕ → ℕ → Bool
has_all base size first last = nat_le first base && nat_le (base + size) (last + 1)

-- the blocks of the range within the block of k host bits that begins at base: that block if it lies in the range, else
-- those within its two halves
unfoldable pub blocks_within : ℕ → ℕ → ℕ → ℕ → ℕ → List Network
blocks_within w zero base first last = cond (has_all base 1 first last) (record { address = base; prefix = w } ∷ []) []
blocks_within w (suc k) base first last =
    cond (has_all base (2 ^ suc k) first last) (record { address = base; prefix = w - suc k } ∷ [])
    (blocks_within w k base first last ++ blocks_within w k (base + 2 ^ k) first last)

-- the blocks of the addresses from first to last
abbrev pub blocks_from_to : ℕ → ℕ → ℕ → List Network
blocks_from_to w first last = blocks_within w w 0 first last
