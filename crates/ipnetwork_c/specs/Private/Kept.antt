-- What an operation keeps of two sets.
use Rattle.std.specs.Prelude.{ℕ, ◌+◌, ◌≤◌, List}
use Rattle.ipnetwork_family.specs.Network.{Network}
use Rattle.ipnetwork_sets.specs.Sets.{InEither, InBoth, InFirstAlone}
use Rattle.ipnetwork_c.specs.declared.set_operations.Operation.{Operation}
use Rattle.ipnetwork_c.specs.declared.set_operations.Operation.TheVariants.{Union, Intersection, Difference}

-- the operation keeps the address x
abbrev pub kept_by : Operation → ℕ → List Network → List Network → ℕ → Type 0
kept_by Union w first second x = InEither w first second x
kept_by Intersection w first second x = InBoth w first second x
kept_by Difference w first second x = InFirstAlone w first second x

-- a list of `room` places has room for what the operation keeps of sets of `first` and `second` blocks; nothing is
-- known of a difference
abbrev pub SurelyFits : Operation → ℕ → ℕ → ℕ → Type 0
SurelyFits Union first second room = first + second ≤ room
SurelyFits Intersection first second room = first + second ≤ room
SurelyFits Difference first second room = ⊥
