-- The pieces of one prefix length of the blocks of a list.
use Rattle.std.specs.Prelude.{◌≡◌, ℕ, ◌&&◌, List, [], ◌∷◌, ◌++◌, Option, None, Some, nat_le, if◌then◌else◌}
use Rattle.std.specs.List.{flat_map}
use Rattle.ipnetwork_family.specs.Network.{Network}
use Rattle.ipnetwork_blocks.specs.Subnets.{subnets_of}

-- the subnets of a block with prefix length p; none if the block is smaller, or its family has no such length
abbrev pub pieces : ℕ → ℕ → Network → List Network
pieces w p block = if nat_le block.prefix p && nat_le p w then subnets_of w block p else []

-- those of all blocks of a list
abbrev pub pieces_in : ℕ → ℕ → List Network → List Network
pieces_in w p blocks = flat_map (pieces w p) blocks

-- those of the current block, if there is one
abbrev pub at_hand : Option (List Network) → List Network
at_hand None = []
at_hand (Some left) = left

-- the pieces of the first block that has any are those of the current block, and `after` are the blocks after it; or
-- no block has any
abbrev pub NextPieces : ℕ → ℕ → List Network → List Network → Option (List Network) → Type 0
NextPieces w p before after None = (pieces_in w p before ≡ []) × (pieces_in w p after ≡ [])
NextPieces w p before after (Some left) =
    (first : Network) × (others : List Network) × (left ≡ first ∷ others)
    × (pieces_in w p before ≡ left ++ pieces_in w p after)
