-- Numbers for the networks of a list.
use Rattle.std.specs.Prelude.{◌≡◌, ℕ, Bool, true, false, List, [], ◌∷◌, ◌++◌, map, Option, None, Some, IsSome}
use Rattle.std.specs.Prelude.{slice_get}
use Rattle.std.specs.FinMap.{FinMap, get, entries}
use Rattle.ipnetwork.specs.declared.ip_network.IpNetwork.{IpNetwork}
use Rattle.ipnetwork.specs.declared.ip_network.IpNetwork.TheVariants as families
use Rattle.ipnetwork_family.specs.Network.{Network, network_cmp}
use Rattle.log_programs.specs.Unmapping.{asked_network}
use Rattle.cidr_join.specs.Joins.{FindsBy, FindsEither}
use Rattle.cidr_join.specs.Longest.{FindsOver}
use Rattle.cidr_join.specs.Routes.{Values}
use Rattle.cidr_join.specs.Runs.{answers_by}
use Rattle.cidr_join.specs.declared.answers.Answers.{Answers}
use Rattle.cidr_join.specs.declared.answers.Answers.TheVariants as answers
use Rattle.cidr_join.specs.declared.found.Found.{Found}
use Rattle.cidr_join.specs.declared.found.Found.TheVariants as prints
use Rattle.cidr_join.specs.declared.value_ids.ValueIds.{ValueIds}
use Rattle.cidr_join.specs.declared.routes.Routes.{Routes}
use Rattle.cidr_join.specs.declared.value.Value.{Value}

-- what is printed if this is the longest network, with this value: the network, as one of either family, or the value
abbrev pub found_by : Bool → (Network → IpNetwork) → Network → Value → Found
found_by true either n value = prints.Network (either n)
found_by false either n value = prints.Value value

-- each network of the table, and no other, has a number, which stands for what is printed if the network is the longest
pub record AreNumbered (by : Network → Value → Found) (table : Values) (numbers : FinMap network_cmp ℕ)
    (founds : List Found) : Type 0 where
  pub stored : (n : Network) (number : ℕ) → get numbers n ≡ Some number → (value : Value) × (get table n ≡ Some value)
      × (slice_get founds number ≡ Some (by n value))
  pub all : (n : Network) → IsSome (get table n) → IsSome (get numbers n)

-- what is printed for each network of the table if it is the longest
abbrev pub founds_of : (Network → Value → Found) → Values → List Found
founds_of by table = map (λ e. by e.0 e.1) (entries table)

-- the networks of one more table are numbered, after what the earlier numbers stand for
pub record AddsNumbers (by : Network → Value → Found) (table : Values) (numbers : FinMap network_cmp ℕ)
    (before founds : List Found) : Type 0 where
  pub behind : founds ≡ before ++ founds_of by table
  pub numbered : AreNumbered by table numbers founds

-- the networks of a list are numbered, and 0 stands for no network
pub record NumbersRoutes (network : Bool) (routes : Routes) (numbered : ValueIds) : Type 0 where
  pub v4 : AreNumbered (found_by network (λ n. families.V4 n)) routes.v4 numbered.v4 numbered.founds.items
  pub v6 : AreNumbered (found_by network (λ n. families.V6 n)) routes.v6 numbered.v6 numbered.founds.items
  pub founds : numbered.founds.items ≡ prints.Nothing ∷ (founds_of (found_by network (λ n. families.V4 n)) routes.v4
      ++ founds_of (found_by network (λ n. families.V6 n)) routes.v6)

-- the networks that decide what is printed for addresses are numbered; with `--group`, there are no numbers
abbrev pub IsNumbering : Answers → ValueIds → Type 0
IsNumbering (answers.Values routes) numbered = NumbersRoutes false routes numbered
IsNumbering (answers.Networks routes) numbered = NumbersRoutes true routes numbered
IsNumbering (answers.Blocks lengths) numbered = numbered.founds.items ≡ []

-- what a lookup found, with its network as a pair
abbrev pub AnswersOver : {V : Type 0} → ℕ → FinMap network_cmp V → Network → Option (Network × V) → Type 0
AnswersOver w t asked answer = FindsOver (λ n. n) w t asked answer

-- the number that a lookup found, or 0
abbrev pub number_or_none : Option (Network × ℕ) → ℕ
number_or_none None = 0
number_or_none (Some found) = found.1

-- the number stands for what is found for a network
abbrev pub StandsForRoute : ValueIds → IpNetwork → ℕ → Type 0
StandsForRoute numbered asked number = (network : Bool) (routes : Routes) → NumbersRoutes network routes numbered
    → (found : Found) × (slice_get numbered.founds.items number ≡ Some found)
    × FindsBy (answers_by network routes) asked found

-- the number stands for what is found for the first network or, if that is nothing, for the second
abbrev pub StandsForEither : ValueIds → IpNetwork → IpNetwork → ℕ → Type 0
StandsForEither numbered first second number = (network : Bool) (routes : Routes)
    → NumbersRoutes network routes numbered
    → (found : Found) × (slice_get numbered.founds.items number ≡ Some found)
    × FindsEither (answers_by network routes) first second found

-- the number stands for what is found for the network of a line, or for a line without one
abbrev pub StandsFor : Answers → Bool → Option IpNetwork → List Found → ℕ → Type 0
StandsFor by mapped None founds number = slice_get founds number ≡ Some prints.Nothing
StandsFor by mapped (Some asked) founds number = (found : Found) × (slice_get founds number ≡ Some found)
    × FindsEither by (asked_network mapped asked) asked found
