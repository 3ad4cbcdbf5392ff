-- The blocks that are still to come.
use Rattle.std.specs.Prelude.{ℕ, List, [], ◌∷◌, Option, None, Some}
use Rattle.ipnetwork_family.specs.Network.{Network}
use Rattle.cidr_merge.specs.declared.command_line.Operation.{Operation}
use Rattle.cidr_merge.specs.declared.command_line.Operation.TheVariants as operations
use Rattle.cidr_merge.specs.declared.sweep.Sweep.{Sweep}
use Rattle.cidr_merge.specs.declared.sweep.Sweep.TheVariants.{Whole, Common, Alone}

abbrev pub blocks_left : {N A : Type 0} → Sweep N A → List Network
blocks_left (Whole blocks) = blocks
blocks_left (Common blocks) = blocks
blocks_left (Alone blocks) = blocks

-- the numbers of the first and the last address of a range
abbrev pub numbers : {A : Type 0} → (A → ℕ) → A × A → ℕ × ℕ
numbers number range = (number range.0, number range.1)

-- the part (a block or a range) that was already taken, then those after it; empty if none was taken
abbrev pub with_head : {N X : Type 0} → (N → X) → Option N → List X → List X
with_head pair None parts = []
with_head pair (Some part) parts = pair part ∷ parts

-- of the parts that only the second side has, those that the operation prints
abbrev pub left_of_second : {X : Type 0} → Operation → List X → List X
left_of_second operations.Union parts = []
left_of_second operations.Common parts = []
left_of_second operations.Minus parts = []
left_of_second operations.Differ parts = parts
