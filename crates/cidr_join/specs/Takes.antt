-- How the lines of lists are taken.
use Rattle.std.specs.Prelude.{◌≡◌, ◌⊎◌, ◌&&◌, ℕ, Bool, true, false, List, [], ◌∷◌, Option, None, Some}
use Rattle.lists.specs.Rules.{has_host_bits}
use Rattle.lists.specs.declared.entry.Entry.{Entry}
use Rattle.cidr_join.specs.Entries.{SaysNothing, Says, LineFaults}
use Rattle.cidr_join.specs.Routes.{SetsEntry, EntryHasOne}
use Rattle.cidr_join.specs.declared.line.Cause.{Cause}
use Rattle.cidr_join.specs.declared.line.Cause.TheVariants as causes
use Rattle.cidr_join.specs.declared.list.ListRules.{ListRules}
use Rattle.cidr_join.specs.declared.routes.Networks.{Networks}
use Rattle.cidr_join.specs.declared.value.Value.{Value}

-- the entry is refused for its host bits
abbrev pub refuses : ListRules → Entry → Bool
refuses rules entry = rules.strict && has_host_bits entry

-- the entry, which is not refused for its host bits, gets this value
abbrev pub TakesEntry : ListRules → Networks → Entry → Value → Networks → Type 0
TakesEntry rules before entry value after = (refuses rules entry ≡ false)
    × SetsEntry rules.last_wins before entry value after

-- the entry, which is not refused for its host bits, is refused for a network that has a value
abbrev pub RepeatsEntry : ListRules → Networks → Entry → Type 0
RepeatsEntry rules before entry = (refuses rules entry ≡ false) × EntryHasOne rules.last_wins before entry

-- by these rules, the line is taken: it says nothing, or its network or the blocks of its range get its value
abbrev pub TakesLine : ListRules → Networks → List ℕ → Networks → Type 0
TakesLine rules before line after = (SaysNothing line × (after ≡ before))
    ⊎ ((entry : Entry) × (value : Value) × Says rules.bare rules.ranges line entry value
    × TakesEntry rules before entry value after)

-- why the line is refused
abbrev pub RefusesLine : ListRules → Networks → List ℕ → Cause → Type 0
RefusesLine rules before line (causes.Entry fault) = LineFaults rules.bare rules.ranges line (causes.Entry fault)
RefusesLine rules before line causes.Value = LineFaults rules.bare rules.ranges line causes.Value
RefusesLine rules before line causes.Twice = (entry : Entry) × (value : Value) × Says rules.bare rules.ranges line entry value
    × RepeatsEntry rules before entry
RefusesLine rules before line causes.Second = LineFaults rules.bare rules.ranges line causes.Second
RefusesLine rules before line causes.Length = LineFaults rules.bare rules.ranges line causes.Length
RefusesLine rules before line causes.HostBits = (entry : Entry) × (value : Value)
    × Says rules.bare rules.ranges line entry value × (refuses rules entry ≡ true)

-- these lines are taken in turn, after others that gave the networks `before`: what all give, or `None` if a line that
-- is refused ends the run, since refused lines are not skipped
abbrev pub Takes : ListRules → Networks → List (List ℕ) → Option Networks → Type 0
Takes rules before [] end = end ≡ Some before
Takes rules before (line ∷ lines) end =
    ((after : Networks) × TakesLine rules before line after × Takes rules after lines end)
    ⊎ ((cause : Cause) × RefusesLine rules before line cause
    × (((rules.skips ≡ true) × Takes rules before lines end) ⊎ ((rules.skips ≡ false) × (end ≡ None))))
