-- What the lines of lists name, and what is taken of them.
use Rattle.std.specs.Prelude.{◌≡◌, ℕ, ◌+◌, ◌-◌, ◌^◌, ◌↔◌, ◌⊎◌, Bool, true, false, List, [], ◌∷◌, Option, None}
use Rattle.std.specs.Prelude.{Some, Result, Ok, Err, MatchBool, min}
use Rattle.ipnetwork_addr.specs.declared.ip.IpAddr.{IpAddr}
use Rattle.ipnetwork_addr.specs.declared.ip.IpAddr.TheVariants.{V4, V6}
use Rattle.ipnetwork_family.specs.Network.{Network}
use Rattle.ipnetwork.specs.IpNetworks.{IpMember}
use Rattle.ipnetwork_blocks.specs.Aggregate.{InUnion}
use Rattle.lines.specs.Beginnings.{asked}
use Rattle.lists.specs.Entries.{IsRange}
use Rattle.lists.specs.LineForms.{ReadsEntryBy}
use Rattle.lists.specs.declared.entry.Entry.{Entry}
use Rattle.lists.specs.declared.entry.Entry.TheVariants as entries
use Rattle.lists.specs.declared.entry.EntryFault.{EntryFault}
use Rattle.lists.specs.declared.entry.EntryFault.TheVariants.{HostBits}
use Rattle.lists.specs.Added.{AddsEntry}
use Rattle.lists.specs.Refusals.{Refused, with_refusal}
use Rattle.lists.specs.Rules.{refuses}
use Rattle.lists.specs.declared.fault.LineFault.{LineFault}
use Rattle.lists.specs.declared.fault.LineFault.TheVariants as faults
use Rattle.lists.specs.declared.rules.Rules.{Rules}

-- what was read of lists: the rules by which entries are refused, the networks of each family, the refused lines, the number of the list and of the line that
-- was read last, and whether memory ran out for a network
pub record ReadLists : Type 0 where
  pub rules : Rules
  pub v4 : List Network
  pub v6 : List Network
  pub refused : Refused
  pub list : ℕ
  pub line : ℕ
  pub is_out_of_memory : Bool

-- nothing was read yet, but these lines were refused before
abbrev pub nothing_read : Rules → Refused → ReadLists
nothing_read rules refused =
    record { rules = rules; v4 = []; v6 = []; refused = refused; list = 0; line = 0; is_out_of_memory = false }

-- the same reading at the beginning of the list of this number
abbrev pub at_list : ReadLists → ℕ → ReadLists
at_list lists number = record lists { list = number; line = 0 }

-- the same reading at the next line, whose number is at most the greatest of 64 bits
abbrev pub at_next_line : ReadLists → ReadLists
at_next_line lists = record lists { line = min (lists.line + 1) (2 ^ 64 - 1) }

-- the address is a member of a network that was read
abbrev pub HasAddress : ReadLists → IpAddr → Type 0
HasAddress lists (V4 a) = InUnion 32 lists.v4 a
HasAddress lists (V6 a) = InUnion 128 lists.v6 a

-- the entry names the address
abbrev pub Names : Entry → IpAddr → Type 0
-- a network names its members
Names (entries.Network n) a = IpMember n a
-- a range names the addresses from its first to its last
Names (entries.Range first last) a = IsRange first a × IsRange a last

-- the networks of the entry were appended, so that its addresses were added and no others, and nothing else has
-- changed; memory has not run out
pub record Gains (before : ReadLists) (entry : Entry) (after : ReadLists) : Type 0 where
  pub networks : AddsEntry before.v4 before.v6 entry after.v4 after.v6
  pub addresses : (a : IpAddr) → HasAddress after a ↔ (HasAddress before a ⊎ Names entry a)
  pub rules : after.rules ≡ before.rules
  pub refused : after.refused ≡ before.refused
  pub list : after.list ≡ before.list
  pub line : after.line ≡ before.line
  pub memory : after.is_out_of_memory ≡ false

-- memory ran out for what an entry names, and the refused lines are unchanged
pub record RunsOut (before after : ReadLists) : Type 0 where
  pub refused : after.refused ≡ before.refused
  pub memory : after.is_out_of_memory ≡ true

-- the networks of the entry were added, or memory ran out for them
abbrev pub TakesEntry : ReadLists → Entry → ReadLists → Type 0
TakesEntry before entry after = Gains before entry after ⊎ RunsOut before after

-- the same reading with its current line refused, for this reason
abbrev pub refusing : ReadLists → LineFault → ReadLists
refusing lists fault = record lists {
  refused = with_refusal lists.refused
      (record { list = lists.list; line = lists.line; fault = fault });
}

-- the entry is taken, or, if it has host bits and the rules refuse these, refused
abbrev pub TakesAllowed : ReadLists → Entry → ReadLists → Type 0
TakesAllowed before entry after = MatchBool (refuses before.rules entry)
    (after ≡ refusing before (faults.Entry HostBits)) (TakesEntry before entry after)

-- what a line says is taken: nothing changes if it says nothing, its entry is taken, or it is refused
abbrev pub TakesReading : ReadLists → Result (Option Entry) EntryFault → ReadLists → Type 0
TakesReading before (Ok None) after = after ≡ before
TakesReading before (Ok (Some entry)) after = TakesAllowed before entry after
TakesReading before (Err fault) after = after ≡ refusing before (faults.Entry fault)

-- the next line is taken, or, if it is given as too long, refused
abbrev pub TakesLine : ReadLists → Option (List ℕ) → ReadLists → Type 0
TakesLine before None after = after ≡ refusing (at_next_line before) faults.Length
TakesLine before (Some line) after = (reading : Result (Option Entry) EntryFault) × ReadsEntryBy before.rules line reading
    × TakesReading (at_next_line before) reading after

-- the next line is taken, unless memory has run out, after which nothing changes
abbrev pub Takes : ReadLists → Option (List ℕ) → ReadLists → Type 0
Takes before line after = ((before.is_out_of_memory ≡ true) × (after ≡ before))
    ⊎ ((before.is_out_of_memory ≡ false) × TakesLine before line after)

-- these lines are taken, one after another; one of more than 1,024 bytes is too long
abbrev pub TakesLines : ReadLists → List (List ℕ) → ReadLists → Type 0
TakesLines before [] after = after ≡ before
TakesLines before (line ∷ lines) after = (between : ReadLists) × Takes before (asked 1024 line) between
    × TakesLines between lines after
