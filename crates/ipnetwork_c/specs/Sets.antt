-- Operations on two sets whose lists of blocks are in the caller's memory.
use Rattle.std.specs.Prelude.{ℕ, List, map}
use Rattle.std.specs.List.{All}
use Rattle.ipnetwork_family.specs.Network.{Network}
use Rattle.ipnetwork_sets.specs.Sets.{IsAddressSet}
use Rattle.ipnetwork_c.specs.Numbers.{no_set}
use Rattle.ipnetwork_c.specs.Held.{PrefixFits}
use Rattle.ipnetwork_c.specs.Outcomes.{Needs}
use Rattle.ipnetwork_c.specs.Answers.{IfFit}
use Rattle.ipnetwork_c.specs.Lists.{PutsBlocks}

-- each prefix length of both lists is at most w
abbrev pub BothFit : {C : Type 0} → ℕ → (C → Network) → List C → List C → Type 0
BothFit w held first second = All (λ c. PrefixFits w (held c)) first × All (λ c. PrefixFits w (held c)) second

-- both lists are lists of sets: the maximal blocks of their unions, in ascending order
abbrev pub BothAreSets : {C : Type 0} → ℕ → (C → Network) → List C → List C → Type 0
BothAreSets w held first second = IsAddressSet w (map held first) × IsAddressSet w (map held second)

-- the shortest list of blocks of the operation's result is put in a list; `no_set` if one of the lists is not the list
-- of a set
abbrev pub SetOperation : {C : Type 0} → ℕ → (C → Network) → (List Network → List Network → ℕ → Type 0) → List C
    → List C → List C × ℕ → List C × ℕ → ℕ → Type 0
SetOperation w held Leaves first second =
    IfFit (BothFit w held first second) (Needs (BothAreSets w held first second) no_set
    (PutsBlocks w held (Leaves (map held first) (map held second))))
