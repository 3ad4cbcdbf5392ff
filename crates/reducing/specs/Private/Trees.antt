-- Slices that are search trees of blocks.
use Rattle.std.specs.Prelude.{◌≡◌, ℕ, zero, suc, ◌/◌, ◌<◌, List, [], ◌∷◌, ◌++◌, length, take, drop}
use Rattle.std.specs.Prelude.{slice_index_or, Option, Some, None, MatchOption}
use Rattle.ipnetwork_family.specs.Network.{Network}
use Rattle.reducing.specs.declared.tree.End.{End}
use Rattle.reducing.specs.declared.tree.End.TheVariants.{First, Last}
use Rattle.reducing.specs.declared.tree.Node.{Node}
use Rattle.reducing.specs.Private.ListParts.{IsSpan}

-- the block, if there is one
abbrev pub alone : {X : Type 0} → (X → Network) → Option X → List Network
alone pair None = []
alone pair (Some x) = pair x ∷ []

-- the blocks in their places
abbrev pub blocks : {X : Type 0} → (X → Network) → List (Node X) → List Network
blocks pair [] = []
blocks pair (n ∷ ns) = alone pair n.block ++ blocks pair ns

-- the rest with a block at this end
abbrev pub with_end : End → Network → List Network → List Network
with_end First b rest = b ∷ rest
with_end Last b rest = rest ++ b ∷ []

-- three parts of a list, the first of them at this end
abbrev pub from_end : End → List Network → List Network → List Network → List Network
from_end First near middle far = (near ++ middle) ++ far
from_end Last near middle far = (far ++ middle) ++ near

-- the block at this end was taken out of the list: none only if it was empty
abbrev pub IsTaken : {X : Type 0} → (X → Network) → End → List Network → List Network → Option X → Type 0
IsTaken pair end list rest taken = MatchOption taken ((list ≡ []) × (rest ≡ []))
    (λ b. list ≡ with_end end (pair b) rest)

-- the root in the middle of the slice has the span of all blocks
abbrev pub IsRoot : {X : Type 0} → ℕ → (X → Network) → List (Node X) → Type 0
IsRoot {X} w pair tree = (n : Node X) → length tree / 2 < length tree → n ≡ slice_index_or tree (length tree / 2) n
    → IsSpan w pair (blocks pair tree) n.span

-- the slice is a tree down to this depth
unfoldable pub IsTreeTo : {X : Type 0} → ℕ → (X → Network) → ℕ → List (Node X) → Type 0
IsTreeTo w pair zero tree = Unit {0}
IsTreeTo w pair (suc depth) tree = IsRoot w pair tree
    × IsTreeTo w pair depth (take (length tree / 2) tree)
    × IsTreeTo w pair depth (drop (suc (length tree / 2)) tree)

-- the slice is a tree
abbrev pub IsTree : {X : Type 0} → ℕ → (X → Network) → List (Node X) → Type 0
IsTree w pair tree = (depth : ℕ) → IsTreeTo w pair depth tree
