-- The laws of adding networks to a set and removing them, for addresses of any number of bits.
use Rattle.std.specs.Prelude.{ℕ, ◌↔◌, ◌⊎◌, List, [], ◌∷◌}
use Rattle.ipnetwork_family.specs.Network.{Network, Member}
use Rattle.ipnetwork_blocks.specs.Aggregate.{InUnion}
use Rattle.ipnetwork_blocks.specs.LeastList.{IsLeastList}
use Rattle.ipnetwork_sets.specs.Sets.{InEither, InFirstAlone}

-- a set to which a network was added has its own addresses and those of the network
abbrev pub AddedHas : Type 0
AddedHas = (w : ℕ) (a : List Network) (n : Network) (blocks : List Network)
    → IsLeastList w (InEither w a (n ∷ [])) blocks
    → (x : ℕ) → InUnion w blocks x ↔ (InUnion w a x ⊎ Member w n x)

-- a set from which a network was removed has those of its addresses that are not in the network
abbrev pub TakenHas : Type 0
TakenHas = (w : ℕ) (a : List Network) (n : Network) (blocks : List Network)
    → IsLeastList w (InFirstAlone w a (n ∷ [])) blocks
    → (x : ℕ) → InUnion w blocks x ↔ (InUnion w a x × ¬ (Member w n x))
