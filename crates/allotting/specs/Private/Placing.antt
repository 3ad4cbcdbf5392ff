-- How far the blocks of a list of lengths have their places.
use Rattle.std.specs.Prelude.{◌≡◌, ℕ, ◌↔◌, List, Option, length}
use Rattle.ipnetwork_family.specs.Network.{Network}
use Rattle.ipnetwork_blocks.specs.Aggregate.{InUnion}
use Rattle.ipnetwork_sets.specs.Sets.{InFirstAlone}
use Rattle.allotting.specs.FreeBlocks.{AreFreeBlocks}
use Rattle.allotting.specs.Places.{IsBefore, IsLeft, IsPlaced}

-- the places before index i of length p are taken from the first pool, and `rest` is what they left of it
pub record IsPlacing {X : Type 0} (pair : X → Network) (w : ℕ) (first used : List Network) (rest : ℕ → Type 0)
    (lengths : List ℕ) (places : List (Option X)) (p i : ℕ) : Type 0 where
  pub one_each : length places ≡ length lengths
  pub left : (x : ℕ) → rest x ↔ IsLeft pair w (InFirstAlone w first used) lengths places p i x
  pub placed : (j : ℕ) → IsBefore lengths p i j → IsPlaced pair w (InFirstAlone w first used) lengths places j

-- x is in the pool, and neither used nor in the blocks that were taken
abbrev pub InPoolAlone : ℕ → List Network → List Network → List Network → ℕ → Type 0
InPoolAlone w pool used taken x = InFirstAlone w pool used x × ¬ (InUnion w taken x)

-- the places of length p before index i are filled with these blocks of the pool, and `blocks` are still free
pub record IsFilling {X : Type 0} (pair : X → Network) (w : ℕ) (first pool used taken blocks : List Network)
    (lengths : List ℕ) (places : List (Option X)) (p i : ℕ) : Type 0 where
  pub placing : IsPlacing pair w first used (InPoolAlone w pool used taken) lengths places p i
  pub free : AreFreeBlocks w (InPoolAlone w pool used taken) p blocks

-- the pool has its addresses that are not in the blocks that were taken
abbrev pub HasLeft : ℕ → List Network → List Network → List Network → Type 0
HasLeft w old taken new = (x : ℕ) → InUnion w new x ↔ InFirstAlone w old taken x
