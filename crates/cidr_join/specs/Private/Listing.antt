-- How the lines of lists are taken, step by step.
use Rattle.std.specs.Prelude.{◌⊎◌, ℕ, List, ◌++◌, Option, None, Some, if◌then◌else◌}
use Rattle.lines.specs.Outputs.{Written}
use Rattle.lists.specs.KnownLists.{KnownLists}
use Rattle.lists.specs.declared.bytes.BytesFault.{BytesFault}
use Rattle.lists.specs.declared.bytes.BytesFault.TheVariants as bytes
use Rattle.cidr_join.specs.Lists.{NotRead}
use Rattle.cidr_join.specs.Routes.{no_networks}
use Rattle.cidr_join.specs.Runs.{LacksMemory}
use Rattle.cidr_join.specs.Takes.{RefusesLine, Takes}
use Rattle.cidr_join.specs.declared.line.Cause.{Cause}
use Rattle.cidr_join.specs.declared.list.Listing.{Listing}
use Rattle.cidr_join.specs.declared.list.ListRules.{ListRules}
use Rattle.cidr_join.specs.declared.routes.Networks.{Networks}
use Rattle.cidr_join.specs.declared.routes.RouteFault.{RouteFault}
use Rattle.cidr_join.specs.declared.routes.RouteFault.TheVariants as faults

-- if the fault is that memory ran out, that is the last thing reported
abbrev pub TellsUnread : {E : Type 0} → BytesFault → Written E → Type 0
TellsUnread (bytes.Open cause) errors = Unit {0}
TellsUnread bytes.Read errors = Unit {0}
TellsUnread bytes.Length errors = Unit {0}
TellsUnread bytes.OutOfMemory errors = LacksMemory errors

abbrev pub TellsUntaken : {E : Type 0} → RouteFault → Written E → Type 0
TellsUntaken faults.OutOfMemory errors = LacksMemory errors
TellsUntaken (faults.Refused cause) errors = Unit {0}

-- not all lists with these names were read, or memory ran out
abbrev pub Unread : {E : Type 0} → KnownLists → List (List ℕ) → Written E → Type 0
Unread known names errors = NotRead known names ⊎ LacksMemory errors

-- the state before the first list
abbrev pub nothing_taken : Listing
nothing_taken = record { networks = no_networks; lines = 0; skipped = 0 }

-- why a line with this fault is left out; `None` if it is not, since it is not refused or the rules skip none
abbrev pub left_out : ListRules → RouteFault → Option Cause
left_out rules faults.OutOfMemory = None
left_out rules (faults.Refused cause) = if rules.skips then Some cause else None

-- memory ran out at the line, or it is refused
abbrev pub LineFails : ListRules → Networks → List ℕ → RouteFault → Type 0
LineFails rules before line faults.OutOfMemory = Unit {0}
LineFails rules before line (faults.Refused cause) = RefusesLine rules before line cause

-- whatever lines follow these, all lines give what those give after the networks `now`
abbrev pub GoesOn : ListRules → Networks → Networks → List (List ℕ) → Type 0
GoesOn rules before now lines = (others : List (List ℕ)) → (end : Option Networks) → Takes rules now others end
    → Takes rules before (lines ++ others) end

-- these lines end the run, whatever lines follow, unless memory ran out
abbrev pub EndsLines : ListRules → Networks → List (List ℕ) → RouteFault → Type 0
EndsLines rules before lines faults.OutOfMemory = Unit {0}
EndsLines rules before lines (faults.Refused cause) =
    (others : List (List ℕ)) → Takes rules before (lines ++ others) None
