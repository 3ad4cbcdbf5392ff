-- What a line of a list says: a network or a range, followed by a value.
use Rattle.std.specs.Prelude.{◌≡◌, ◌≢◌, ◌≤◌, ◌<◌, ◌==◌, ◌||◌, ◌&&◌, ◌+◌, ◌⊎◌, ℕ, Bool, true, false, not, List, [], ◌∷◌}
use Rattle.std.specs.Prelude.{length, take, drop, Option, None, Some, Result, Ok, Err, if◌then◌else◌}
use Rattle.std.specs.List.{prefix_len}
use Rattle.ipnetwork_addr.specs.Computed.Either.{ip_of}
use Rattle.lists.specs.Entries.{IsRange, ReadsEntry}
use Rattle.lists.specs.Lines.{trimmed_by}
use Rattle.lists.specs.declared.entry.Entry.{Entry}
use Rattle.lists.specs.declared.entry.Entry.TheVariants as entries
use Rattle.lists.specs.declared.entry.EntryFault.{EntryFault}
use Rattle.lists.specs.declared.entry.EntryFault.TheVariants as faults
use Rattle.cidr_join.specs.Comments.{HasEntry, HasNoEntry, comment_len, is_skipped}
use Rattle.cidr_join.specs.Pairs.{AreNoRange, are_alike, two_of}
use Rattle.cidr_join.specs.declared.line.Cause.{Cause}
use Rattle.cidr_join.specs.declared.line.Cause.TheVariants as causes
use Rattle.cidr_join.specs.declared.line.RouteEntry.{RouteEntry}
use Rattle.cidr_join.specs.declared.pair.Pair.{Pair}
use Rattle.cidr_join.specs.declared.value.Value.{Value}

-- a space, a tab or a carriage return
abbrev pub is_blank : ℕ → Bool
is_blank byte = byte == 32 || byte == 9 || byte == 13

-- a space or a tab
abbrev pub is_gap : ℕ → Bool
is_gap byte = byte == 32 || byte == 9

-- neither a space nor a tab nor a comma
abbrev pub is_word : ℕ → Bool
is_word byte = not (byte == 32) && not (byte == 9) && not (byte == 44)

-- neither a space nor a tab nor a comma nor a `-` nor `#` nor `;`
abbrev pub is_name : ℕ → Bool
is_name byte = not (byte == 32) && not (byte == 9) && not (byte == 44) && not (byte == 45) && not (byte == 35)
    && not (byte == 59)

-- the text without the blanks around it
abbrev pub trimmed : List ℕ → List ℕ
trimmed text = trimmed_by is_blank text

-- the lengths of the word, of the name and of the spaces and tabs that a text begins with
abbrev pub word_len : List ℕ → ℕ
word_len text = prefix_len is_word text

abbrev pub name_len : List ℕ → ℕ
name_len text = prefix_len is_name text

abbrev pub gap_len : List ℕ → ℕ
gap_len text = prefix_len is_gap text

-- the length of the `-`, the spaces and tabs and the name that a text begins with; 0 if it begins with no `-`
abbrev pub dash_len : List ℕ → ℕ
dash_len [] = 0
dash_len (byte ∷ rest) = if byte == 45 then 1 + gap_len rest + name_len (drop (gap_len rest) rest) else 0

-- the same, with spaces and tabs before it
abbrev pub with_gap : ℕ → ℕ → ℕ
with_gap gap dash = if dash == 0 then 0 else gap + dash

abbrev pub tail_len : List ℕ → ℕ
tail_len text = with_gap (gap_len text) (dash_len (drop (gap_len text) text))

-- the length of the network or range that a text begins with: up to the end of its first name, or, if a `-` follows
-- that, with or without spaces and tabs around it, up to the end of the name after the `-`
abbrev pub ends_len : List ℕ → ℕ
ends_len text = name_len text + tail_len (drop (name_len text) text)

-- if one more `-` follows, that and the name after it belong to the entry, so that it is refused
abbrev pub names_len : List ℕ → ℕ
names_len text = ends_len text + tail_len (drop (ends_len text) text)

-- the length of the entry: if `#` or `;` follows directly, all that is left is a comment, and belongs to it
abbrev pub entry_len : List ℕ → ℕ
entry_len text = names_len text + comment_len (drop (names_len text) text)

abbrev pub entry_part : List ℕ → List ℕ
entry_part text = take (entry_len text) text

-- the text after the comma that it begins with, or the whole text if it begins with none
abbrev pub behind_comma : List ℕ → List ℕ
behind_comma [] = []
behind_comma (byte ∷ rest) = if byte == 44 then rest else byte ∷ rest

-- what follows blanks and at most one comma, without the blanks around it
abbrev pub value_part : List ℕ → List ℕ
value_part text = trimmed (behind_comma (trimmed text))

-- the value of a text that begins with a network or a range
abbrev pub value_of : List ℕ → List ℕ
value_of text = value_part (drop (entry_len text) text)

-- the first word of a value, and the value after it
abbrev pub first_word : List ℕ → List ℕ
first_word value = take (word_len value) value

abbrev pub value_behind : List ℕ → List ℕ
value_behind value = value_part (drop (word_len value) value)

-- the two addresses that a text begins with: its entry is one, without a `/`, and the first word of its value another
unfoldable pub addresses_of : List ℕ → Option Pair
addresses_of text = two_of (ip_of (entry_part text)) (ip_of (first_word (value_of text)))

-- a line of at most 1,024 bytes that is blank or a comment
abbrev pub SaysNothing : List ℕ → Type 0
SaysNothing line = (length line ≤ 1024) × (is_skipped (trimmed line) ≡ true)

-- a line of at most 1,024 bytes that is neither blank nor a comment
abbrev pub SaysSomething : List ℕ → Type 0
SaysSomething line = (length line ≤ 1024) × (is_skipped (trimmed line) ≡ false)

-- the text begins with this network or range, read as a line of a list of networks, and this value follows
abbrev pub NamesOne : List ℕ → Entry → List ℕ → Type 0
NamesOne text entry value = ReadsEntry (entry_part text) (Ok (Some entry)) × (value ≡ value_of text)

-- what a text that begins with these two addresses, if with two, names, and its value: with `ranges`, the range from
-- one to the other; without, if they are of two families, the first
abbrev pub Names : Bool → List ℕ → Option Pair → Entry → List ℕ → Type 0
Names true text (Some pair) entry value = (entry ≡ entries.Range pair.first pair.second) × IsRange pair.first pair.second
    × (value ≡ value_behind (value_of text))
Names true text None entry value = NamesOne text entry value
Names false text pair entry value = (are_alike pair ≡ false) × NamesOne text entry value

-- the line says this network or range and this value, which is empty only if `bare`, and has no entry in a comment that
-- it begins as
abbrev pub Says : Bool → Bool → List ℕ → Entry → Value → Type 0
Says bare ranges line entry value = SaysSomething line
    × Names ranges (trimmed line) (addresses_of (trimmed line)) entry value.bytes.now
    × (bare ≡ false → value.bytes.now ≢ []) × HasNoEntry value.bytes.now

-- why a text is not a network or range; an empty text has the fault of an address
abbrev pub EntryFails : List ℕ → EntryFault → Type 0
EntryFails text fault = ReadsEntry text (Err fault) ⊎ (ReadsEntry text (Ok None) × (fault ≡ faults.Address))

-- why a text that begins with these two addresses, if with two, names nothing: its entry is none; or two addresses that
-- are a range by `ranges` are none; or, without `ranges`, there are two of one family
abbrev pub NamesNone : Bool → List ℕ → Option Pair → Cause → Type 0
NamesNone ranges text pair (causes.Entry fault) = EntryFails (entry_part text) fault
    ⊎ ((ranges ≡ true) × AreNoRange pair × (fault ≡ faults.Range))
NamesNone ranges text pair causes.Second = (ranges ≡ false) × (are_alike pair ≡ true)
NamesNone ranges text pair causes.Value = ⊥
NamesNone ranges text pair causes.Twice = ⊥
NamesNone ranges text pair causes.Length = ⊥
NamesNone ranges text pair causes.HostBits = ⊥

-- why a line that says something names nothing
abbrev pub SaysNone : Bool → List ℕ → Cause → Type 0
SaysNone ranges line cause = SaysSomething line × NamesNone ranges (trimmed line) (addresses_of (trimmed line)) cause

-- a line names a network or a range, and its value begins as a comment that has an entry
abbrev pub HasSecond : Bool → List ℕ → Type 0
HasSecond ranges line = SaysSomething line × ((entry : Entry) × (value : List ℕ)
    × Names ranges (trimmed line) (addresses_of (trimmed line)) entry value × HasEntry value)

-- why a line cannot be read; a value may be missing if `bare`
abbrev pub LineFaults : Bool → Bool → List ℕ → Cause → Type 0
LineFaults bare ranges line causes.Length = 1024 < length line
LineFaults bare ranges line (causes.Entry fault) = SaysNone ranges line (causes.Entry fault)
    ⊎ (HasSecond ranges line × (fault ≡ faults.Second))
LineFaults bare ranges line causes.Second = SaysNone ranges line causes.Second
LineFaults bare ranges line causes.Value = (bare ≡ false) × SaysSomething line
    × ((entry : Entry) × Names ranges (trimmed line) (addresses_of (trimmed line)) entry [])
LineFaults bare ranges line causes.Twice = ⊥
LineFaults bare ranges line causes.HostBits = ⊥

-- what reading a line returns
abbrev pub ReadsRoute : Bool → Bool → List ℕ → Result (Option RouteEntry) Cause → Type 0
ReadsRoute bare ranges line (Ok None) = SaysNothing line
ReadsRoute bare ranges line (Ok (Some said)) = Says bare ranges line said.entry said.value
ReadsRoute bare ranges line (Err cause) = LineFaults bare ranges line cause
