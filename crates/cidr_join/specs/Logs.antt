-- How logs are read one after another.
use Rattle.std.specs.Prelude.{◌≡◌, ◌⊎◌, ◌||◌, ℕ, Bool, true, false, List, [], Option, None, Some}
use Rattle.ipnetwork.specs.declared.ip_network.IpNetwork.{IpNetwork}
use Rattle.lists.specs.KnownLists.{KnownLists}
use Rattle.log_programs.specs.WithoutAddress.{is_missed}
use Rattle.log_programs.specs.declared.log_stats.LogStats.{LogStats}
use Rattle.log_programs.specs.declared.without_address.WithoutAddress.{WithoutAddress}
use Rattle.program.specs.LogLines.{log_lines}
use Rattle.cidr_join.specs.Joins.{Gives}
use Rattle.cidr_join.specs.declared.found.Found.{Found}
use Rattle.cidr_join.specs.declared.join.Join.{Join}

-- whether a log or a line is missed, by the counts of the lines of a log that did not end the run; `missed` is the same
-- for the logs before it
abbrev pub missed_by : Bool → WithoutAddress → Option LogStats → Option Bool
missed_by missed bad None = None
missed_by missed bad (Some seen) = Some (missed || is_missed bad seen)

-- what the log of this name gives, and whether a log or a line is missed with it, or `None` if it ends the run; it may
-- not be opened, and is then missed itself
abbrev pub GivesOne : {A : Type 0} → (Join → Option IpNetwork → Found → List ℕ → List ℕ → List A) → Join → KnownLists
    → Bool → Bool → List ℕ → List A → Option Bool → Type 0
GivesOne of join known cut missed name all next =
    (known.may_open name false × (all ≡ []) × (next ≡ Some (missed || true)))
    ⊎ (known.may_open name true × (seen : Option LogStats)
    × ((log : List ℕ) → known.bytes_of name ≡ Some log → Gives of join cut (log_lines log) all seen)
    × (next ≡ missed_by missed join.bad seen))
