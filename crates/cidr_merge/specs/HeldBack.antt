-- When a result is held back: it has too few networks, or too many of its addresses went or came.
use Rattle.std.specs.Prelude.{◌≡◌, ◌==◌, ◌+◌, ◌^◌, ◌&&◌, ◌||◌, ◌⊎◌, ℕ, Bool, true, not, List, length, min, nat_lt}
use Rattle.std.specs.Prelude.{if◌then◌else◌}
use Rattle.ipnetwork_blocks.specs.Aggregate.{InUnion}
use Rattle.ipnetwork_blocks.specs.LeastList.{IsLeastList}
use Rattle.ipnetwork_family.specs.Network.{Network}
use Rattle.ipnetwork_sets.specs.Counts.{HasCount}
use Rattle.ipnetwork_sets.specs.Sets.{InFirstAlone}
use Rattle.cidr_merge.specs.Answers.{IsLeft, IsLeftOfSecond}
use Rattle.cidr_merge.specs.Bounds.{allows}
use Rattle.cidr_merge.specs.RightWords.{has_sets}
use Rattle.cidr_merge.specs.declared.bounds.Bound.{Bound}
use Rattle.cidr_merge.specs.declared.bounds.Bound.TheVariants.{Any}
use Rattle.cidr_merge.specs.declared.command_line.Operation.{Operation}
use Rattle.cidr_merge.specs.declared.command_line.Request.{Request}
use Rattle.cidr_merge.specs.declared.reading.Sets.{Sets}

-- the number of networks that a result must have: that of `--at-least`; if none is given, 1 in a form that fills sets,
-- unless `--allow-empty` is given
abbrev pub least_number : Request → ℕ
least_number request =
    if not (request.at_least == 0) then request.at_least
    else if has_sets request.form && not request.allows_empty then 1 else 0

-- the result of the operation has so many networks: those of the least list of each family, and for `differ` those that
-- only the second side has
pub record HasNetworks (operation : Operation) (first second : Sets) (networks : ℕ) : Type 0 where
  pub v4 : List Network
  pub v6 : List Network
  pub others_v4 : List Network
  pub others_v6 : List Network
  pub v4_is : IsLeastList 32 (IsLeft operation 32 first.v4 second.v4) v4
  pub v6_is : IsLeastList 128 (IsLeft operation 128 first.v6 second.v6) v6
  pub others_v4_is : IsLeastList 32 (IsLeftOfSecond operation 32 first.v4 second.v4) others_v4
  pub others_v6_is : IsLeastList 128 (IsLeftOfSecond operation 128 first.v6 second.v6) others_v6
  pub counted : networks ≡ length v4 + length v6 + (length others_v4 + length others_v6)

-- of so many addresses of the first side so many went, and so many came that it had not: they are at most `2 ^ 128`
-- together, since no address went and came. The bound allows them or not
pub record IsCountedChange (w : ℕ) (bound : Bound) (first second : List Network) (allowed : Bool) : Type 0 where
  pub addresses : ℕ
  pub went : ℕ
  pub came : ℕ
  pub addresses_are : HasCount (InUnion w first) addresses
  pub went_are : HasCount (InFirstAlone w first second) went
  pub came_are : HasCount (InFirstAlone w second first) came
  pub allowed_is : allowed ≡ allows bound addresses (min (went + came) (2 ^ 128))

-- the bound allows what went and came of a family, or not
abbrev pub IsChange : ℕ → Bound → List Network → List Network → Bool → Type 0
IsChange w bound first second allowed =
    ((bound ≡ Any) × (allowed ≡ true)) ⊎ IsCountedChange w bound first second allowed

-- the result is held back or not: it has too few networks, or what went and came is not allowed
pub record IsHeldBack (request : Request) (first second : Sets) (held : Bool) : Type 0 where
  pub networks : ℕ
  pub allowed_v4 : Bool
  pub allowed_v6 : Bool
  pub counted : HasNetworks request.operation first second networks
  pub v4 : IsChange 32 request.max_change first.v4 second.v4 allowed_v4
  pub v6 : IsChange 128 request.max_change first.v6 second.v6 allowed_v6
  pub held_is : held ≡ (nat_lt networks (least_number request) || not (allowed_v4 && allowed_v6))
