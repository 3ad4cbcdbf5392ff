-- What the definitions promise, part by part, and values at which a misreading of them would show.
use Rattle.lists.proofs.Words.{◌≡◌, ◌↔◌, ◌⊎◌, ◌≤◌, ◌<◌, ◌+◌, ◌-◌, ◌^◌, ◌++◌, ℕ, List, [], ◌∷◌, true, false, min, length, refl, subst, MatchBool, refuses, Option, None, Some, Result, Ok, Err, Consumes, lines, IpAddr, V4, V6, InUnion, complete_part, IsBeginning, ReadsEntryBy, Entry, EntryFault, AddsEntry, ReadLists, at_next_line, refusing, HasAddress, Names, Gains, RunsOut, TakesEntry, TakesReading, TakesLine, Takes, TakesLines, Refused, with_refusal, TakesBefore, LineFault, Refusal}
use Rattle.lines.specs.declared.fault.RunFault.TheVariants as runs
use Rattle.lists.specs.declared.entry.Entry.TheVariants as entries
use Rattle.lists.specs.declared.entry.EntryFault.TheVariants.{HostBits}
use Rattle.lists.specs.declared.fault.LineFault.TheVariants as faults

-- ---- a line

pub what_an_entry_adds : (before after : ReadLists) (entry : Entry) → Gains before entry after
    → AddsEntry before.v4 before.v6 entry after.v4 after.v6
    × ((a : IpAddr) → HasAddress after a ↔ (HasAddress before a ⊎ Names entry a))
    × (after.rules ≡ before.rules) × (after.refused ≡ before.refused) × (after.list ≡ before.list) × (after.line ≡ before.line)
    × (after.is_out_of_memory ≡ false)
what_an_entry_adds before after entry h = (h.networks, h.addresses, h.rules, h.refused, h.list, h.line, h.memory)

pub what_no_memory_leaves : (before after : ReadLists) → RunsOut before after → (after.refused ≡ before.refused)
    × (after.is_out_of_memory ≡ true)
what_no_memory_leaves before after h = (h.refused, h.memory)

pub an_entry_is_taken_or_memory_runs_out : (before after : ReadLists) (entry : Entry) → TakesEntry before entry after
    → Gains before entry after ⊎ RunsOut before after
an_entry_is_taken_or_memory_runs_out before after entry h = h

pub an_entry_that_the_rules_refuse : (before after : ReadLists) (entry : Entry) → refuses before.rules entry ≡ true
    → TakesReading before (Ok (Some entry)) after → after ≡ refusing before (faults.Entry HostBits)
an_entry_that_the_rules_refuse before after entry e h =
    subst (λ b. MatchBool b (after ≡ refusing before (faults.Entry HostBits)) (TakesEntry before entry after)) e h

pub an_entry_that_they_allow : (before after : ReadLists) (entry : Entry) → refuses before.rules entry ≡ false
    → TakesReading before (Ok (Some entry)) after → TakesEntry before entry after
an_entry_that_they_allow before after entry e h =
    subst (λ b. MatchBool b (after ≡ refusing before (faults.Entry HostBits)) (TakesEntry before entry after)) e h

pub a_line_without_an_entry : (before after : ReadLists) → TakesReading before (Ok None) after → after ≡ before
a_line_without_an_entry before after h = h

pub a_line_that_is_refused : (before after : ReadLists) (fault : EntryFault) → TakesReading before (Err fault) after
    → after ≡ refusing before (faults.Entry fault)
a_line_that_is_refused before after fault h = h

pub a_line_that_is_too_long : (before after : ReadLists) → TakesLine before None after
    → after ≡ refusing (at_next_line before) faults.Length
a_line_that_is_too_long before after h = h

pub what_is_taken_of_a_line : (before after : ReadLists) (line : List ℕ) → TakesLine before (Some line) after
    → (reading : Result (Option Entry) EntryFault) × ReadsEntryBy before.rules line reading
    × TakesReading (at_next_line before) reading after
what_is_taken_of_a_line before after line h = h

pub what_is_taken_after_memory_ran_out : (before after : ReadLists) (line : Option (List ℕ)) → Takes before line after
    → ((before.is_out_of_memory ≡ true) × (after ≡ before))
    ⊎ ((before.is_out_of_memory ≡ false) × TakesLine before line after)
what_is_taken_after_memory_ran_out before after line h = h

-- ---- addresses

pub addresses_of_ipv4 : (lists : ReadLists) (a : ℕ) → HasAddress lists (V4 a) → InUnion 32 lists.v4 a
addresses_of_ipv4 lists a h = h

pub addresses_of_ipv6 : (lists : ReadLists) (a : ℕ) → HasAddress lists (V6 a) → InUnion 128 lists.v6 a
addresses_of_ipv6 lists a h = h

pub an_address_of_a_range : (first last a : ℕ) → Names (entries.Range (V6 first) (V6 last)) (V6 a)
    → (first ≤ a) × (a ≤ last)
an_address_of_a_range first last a h = h

pub no_address_of_the_other_family : (first last a : ℕ) → Names (entries.Range (V4 first) (V4 last)) (V6 a) → ⊥
no_address_of_the_other_family first last a h = h.0

-- ---- numbers of lines, and refused lines

pub the_seventh_line : (lists : ReadLists) → (at_next_line (record lists { line = 6 })).line ≡ 7
the_seventh_line lists = refl

pub the_last_number_of_a_line : (lists : ReadLists)
    → (at_next_line (record lists { line = 18446744073709551615 })).line ≡ 18446744073709551615
the_last_number_of_a_line lists = refl

pub a_refusal_names_its_line : (lists : ReadLists) (fault : LineFault)
    → (refusing (record lists { refused = record { kept = []; more = 0 }; list = 3; line = 7 }) fault).refused.kept
    ≡ record { list = 3; line = 7; fault = fault } ∷ []
a_refusal_names_its_line lists fault = refl

pub the_hundredth_is_kept : (refused : Refused) (refusal : Refusal) → length refused.kept ≡ 99
    → with_refusal refused refusal ≡ record { kept = refused.kept ++ refusal ∷ []; more = refused.more }
the_hundredth_is_kept refused refusal e = rw e

pub the_next_is_counted : (refused : Refused) (refusal : Refusal) → length refused.kept ≡ 100
    → with_refusal refused refusal ≡ record { kept = refused.kept; more = min (refused.more + 1) (2 ^ 64 - 1) }
the_next_is_counted refused refusal e = rw e

-- ---- lists that are not read to their ends

pub what_a_failed_read_leaves : (remained remains : Option (List ℕ)) (before after : ReadLists)
    → TakesBefore remained remains runs.Read before after
    → (read : List ℕ) × Consumes remained remains read × TakesLines before (lines (complete_part read)) after
what_a_failed_read_leaves remained remains before after h = h

pub what_too_many_bytes_leave : (remained remains : Option (List ℕ)) (before after : ReadLists)
    → TakesBefore remained remains runs.InputTooLong before after
    → (read : List ℕ) × (first : List ℕ) × Consumes remained remains read × (2 ^ 64 - 1 < length read)
    × IsBeginning first read × TakesLines before (lines (complete_part first)) after
what_too_many_bytes_leave remained remains before after h = h

pub no_write_stops_a_reading : (remained remains : Option (List ℕ)) (before after : ReadLists)
    → TakesBefore remained remains runs.Write before after → ⊥
no_write_stops_a_reading remained remains before after h = h
