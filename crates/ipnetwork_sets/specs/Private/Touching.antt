-- Runs of blocks without a gap, as ranges: how contracts see an iterator over the ranges of a set.
use Rattle.std.specs.Prelude.{◌≡◌, ◌==◌, ℕ, ◌+◌, cond, List, [], ◌∷◌, Option, None, Some}
use Rattle.ipnetwork_family.specs.Network.{Network, low, high}
use Rattle.ipnetwork_sets.specs.Sets.{IsAddressSet}

-- the second network begins right after the first
abbrev pub Touches : ℕ → Network → Network → Type 0
Touches w a b = high w a + 1 ≡ b.address

-- puts a range in front of others, joined with the first of them if that begins right after it
unfoldable pub put_in_front : ℕ × ℕ → List (ℕ × ℕ) → List (ℕ × ℕ)
put_in_front r [] = r ∷ []
put_in_front r (s ∷ rest) = cond (r.1 + 1 == s.0) ((r.0, s.1) ∷ rest) (r ∷ s ∷ rest)

-- the ranges of the blocks, joined if no address lies between them
unfoldable pub runs : ℕ → List Network → List (ℕ × ℕ)
runs w [] = []
runs w (b ∷ bs) = put_in_front (low w b, high w b) (runs w bs)

-- the ranges of the block read ahead, if there is one, and of the blocks after it
abbrev pub runs_left : ℕ → Option Network → List Network → List (ℕ × ℕ)
runs_left w None left = []
runs_left w (Some b) left = runs w (b ∷ left)

-- a block is read ahead unless no blocks are left, and it and the blocks left are those of a set
abbrev pub IsAhead : ℕ → Option Network → List Network → Type 0
IsAhead w None left = left ≡ []
IsAhead w (Some b) left = IsAddressSet w (b ∷ left)
