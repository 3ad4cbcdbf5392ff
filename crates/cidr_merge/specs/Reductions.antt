-- How a run ends that reduces lists to a number of networks.
use Rattle.std.specs.Prelude.{◌≡◌, ◌==◌, ◌||◌, ◌⊎◌, ℕ, List, Bool, true, false, not, ◌&&◌, String}
use Rattle.ipnetwork_blocks.specs.Aggregate.{InUnion, IsAggregate}
use Rattle.ipnetwork_family.specs.Network.{Network}
use Rattle.ipnetwork_sets.specs.Counts.{HasCount}
use Rattle.lines.specs.Outputs.{Written}
use Rattle.lists.specs.KnownLists.{KnownLists}
use Rattle.reducing.specs.Reducing.{Reduces}
use Rattle.cidr_merge.specs.Bounds.{allows}
use Rattle.cidr_merge.specs.Exports.{is_any}
use Rattle.cidr_merge.specs.OneSide.{EndsSide}
use Rattle.cidr_merge.specs.Runs.{EndsAnswering}
use Rattle.cidr_merge.specs.SetNames.{Names}
use Rattle.cidr_merge.specs.Writing.{EndsSilently}
use Rattle.cidr_merge.specs.declared.bounds.Bound.{Bound}
use Rattle.cidr_merge.specs.declared.command_line.ReduceRequest.{ReduceRequest}
use Rattle.cidr_merge.specs.declared.reading.Sets.{Sets}

-- whether a family of the lists has no number: as it is, if there are both and one number, for lists of one family
abbrev pub lacks_number : ReduceRequest → Sets → Bool
lacks_number request sets =
    ((request.is_of_one && is_any sets.v4) && is_any sets.v6)
    || ((request.v4 == 0 && is_any sets.v4) || (request.v6 == 0 && is_any sets.v6))

-- the blocks of a family are joined until there are at most so many; it is allowed as many other addresses as it then
-- has, or not, compared with those of the lists
pub record IsReduced (w most : ℕ) (bound : Bound) (set blocks : List Network) (allowed : Bool) : Type 0 where
  pub others : ℕ
  pub addresses : ℕ
  pub reduces : Reduces w most set blocks others
  pub counted : HasCount (InUnion w set) addresses
  pub allowed_is : allowed ≡ allows bound addresses others

-- networks with all addresses of the lists were found: if they have too many others, nothing is written; otherwise the
-- least list with the addresses of these networks is printed, as a union of it with itself
abbrev pub EndsJoined : {W : Type 0} → Names → ReduceRequest → Bool → List Network → List Network → Bool → Written W
    → Written W → ℕ → Type 0
EndsJoined names request skips v4 v6 allowed old new status =
    ((allowed ≡ false) × EndsSilently old new status)
    ⊎ ((allowed ≡ true) × (sets : Sets) × IsAggregate 32 v4 sets.v4 × IsAggregate 128 v6 sets.v6
    × EndsAnswering names request.merge skips sets sets old new status)

-- the lists were read: if lines were refused and are not to be skipped, or a family has no number, nothing is written;
-- otherwise the networks of each family are joined, unless memory runs out
abbrev pub EndsJoining : {W : Type 0} → Names → ReduceRequest → Bool → Sets → Written W → Written W → ℕ → Type 0
EndsJoining names request skips sets old new status =
    (((skips && not request.merge.skips_bad) || lacks_number request sets ≡ true) × EndsSilently old new status)
    ⊎ (((skips && not request.merge.skips_bad) || lacks_number request sets ≡ false)
    × (EndsSilently old new status ⊎ ((v4 v6 : List Network) × (allowed_v4 allowed_v6 : Bool)
    × IsReduced 32 request.v4 request.bound sets.v4 v4 allowed_v4
    × IsReduced 128 request.v6 request.bound sets.v6 v6 allowed_v6
    × EndsJoined names request skips v4 v6 (allowed_v4 && allowed_v6) old new status)))

-- the lists were read, and their networks were joined until there were few
abbrev pub EndsReducing : {Z W : Type 0} → KnownLists → List (String Z) → Names → ReduceRequest → Written W → Written W
    → ℕ → Type 0
EndsReducing known words names request old new status =
    EndsSide known names.fields names.only words request.merge.shape
    (λ sets skips. EndsJoining names request skips sets old new status) old new status
