-- Which lines of a list name addresses, and why others are refused.
use Rattle.std.specs.Prelude.{◌≡◌, ◌≢◌, ◌≤◌, ◌<◌, ◌==◌, ◌⊎◌, ℕ, Bool, List, [], length, Option, None, Some, Result, Ok}
use Rattle.std.specs.Prelude.{Err, MatchResult}
use Rattle.std.specs.List.{before_first, after_first, position_or_len}
use Rattle.ipnetwork_addr.specs.Either.{NamesIp}
use Rattle.ipnetwork_addr.specs.declared.ip.IpAddr.{IpAddr}
use Rattle.ipnetwork_addr.specs.declared.ip.IpAddr.TheVariants.{V4, V6}
use Rattle.ipnetwork.specs.IpNetworkText.{NamesIpNetwork, IsIpCause}
use Rattle.ipnetwork_family.specs.declared.error.CidrFault.TheVariants as causes
use Rattle.lists.specs.Encodings.{encoding_of}
use Rattle.lists.specs.Lines.{before_comment, comment_text, trimmed}
use Rattle.lists.specs.declared.encoding.Encoding.{Encoding}
use Rattle.lists.specs.declared.entry.Entry.{Entry}
use Rattle.lists.specs.declared.entry.Entry.TheVariants as entries
use Rattle.lists.specs.declared.entry.EntryFault.{EntryFault}
use Rattle.lists.specs.declared.entry.EntryFault.TheVariants as faults

-- the byte is `-` (45)
abbrev pub is_dash : ℕ → Bool
is_dash byte = byte == 45

-- the text contains a `-`
abbrev pub HasDash : List ℕ → Type 0
HasDash text = position_or_len is_dash text < length text

-- the two texts, without the blanks around each, name these addresses
abbrev pub NamesEnds : List ℕ → List ℕ → IpAddr → IpAddr → Type 0
NamesEnds before after first last = NamesIp (trimmed before) first × NamesIp (trimmed after) last

-- what comes before the first `-` of the text and what comes after it, without the blanks around each, name these
-- addresses
abbrev pub NamesBoth : List ℕ → IpAddr → IpAddr → Type 0
NamesBoth text first last = NamesEnds (before_first is_dash text) (after_first is_dash text) first last

-- the addresses are of one family, and the first is not after the last
abbrev pub IsRange : IpAddr → IpAddr → Type 0
IsRange (V4 first) (V4 last) = first ≤ last
IsRange (V4 first) (V6 last) = ⊥
IsRange (V6 first) (V4 last) = ⊥
IsRange (V6 first) (V6 last) = first ≤ last

-- the text names this entry
abbrev pub NamesEntry : List ℕ → Entry → Type 0
-- a text without a `-` names a network
NamesEntry text (entries.Network n) = ¬ (HasDash text) × NamesIpNetwork text n
-- a text with a `-` names the range between its two ends
NamesEntry text (entries.Range first last) = HasDash text × NamesBoth text first last × IsRange first last

-- this is why the text, as plain text, names no entry
abbrev pub IsPlainCause : List ℕ → EntryFault → Type 0
-- a text without a `-` has two or more slashes
IsPlainCause text faults.Format = ¬ (HasDash text) × IsIpCause text causes.Format
-- a text without a `-` has at most one slash, and what comes before it is no address; or the two ends of a text with a
-- `-` are not both addresses
IsPlainCause text faults.Address = (¬ (HasDash text) × IsIpCause text causes.Addr)
    ⊎ (HasDash text × ((first last : IpAddr) → ¬ (NamesBoth text first last)))
-- a text without a `-` has an address before its slash, and after it no suffix of that address's family
IsPlainCause text faults.Prefix = ¬ (HasDash text) × IsIpCause text causes.Prefix
-- both ends of a text with a `-` are addresses, but of two families, or the last is before the first
IsPlainCause text faults.Range = HasDash text
    × ((first : IpAddr) × (last : IpAddr) × NamesBoth text first last × ¬ (IsRange first last))
-- plain text has no other encoding; a text has no second entry, its host bits are kept, and it has no mask of its own
IsPlainCause text (faults.Encoding encoding) = ⊥
IsPlainCause text faults.Second = ⊥
IsPlainCause text faults.HostBits = ⊥
IsPlainCause text faults.Mask = ⊥

-- the fault that is reported about a text: its encoding, if it has one, and else the cause
abbrev pub told_cause : Option Encoding → EntryFault → EntryFault
told_cause None cause = cause
told_cause (Some encoding) cause = faults.Encoding encoding

-- this is why the text names no entry: its encoding, if it has one, and else the cause as plain text
abbrev pub IsEntryCause : List ℕ → EntryFault → Type 0
IsEntryCause text fault = (cause : EntryFault) × IsPlainCause text cause
    × (fault ≡ told_cause (encoding_of text) cause)

-- reading the text gives the entry that it names, or, if it names none, the reason
abbrev pub ReadsText : List ℕ → Result Entry EntryFault → Type 0
ReadsText text result =
    MatchResult result (NamesEntry text) (λ fault. IsEntryCause text fault
    × ((entry : Entry) → ¬ (NamesEntry text entry)))

-- the text of the entry of a line: what comes before a comment, without the blanks around it
abbrev pub entry_text : List ℕ → List ℕ
entry_text line = trimmed (before_comment line)

-- the text names an entry; the text names none
abbrev pub NamesSome : List ℕ → Type 0
NamesSome text = (entry : Entry) × NamesEntry text entry

abbrev pub NamesNone : List ℕ → Type 0
NamesNone text = (entry : Entry) → ¬ (NamesEntry text entry)

-- this is why the line is refused: its text names no entry, or it names one, and so does its comment
abbrev pub IsRefusedFor : List ℕ → EntryFault → Type 0
IsRefusedFor line fault = (IsEntryCause (entry_text line) fault × NamesNone (entry_text line))
    ⊎ (NamesSome (entry_text line) × NamesSome (comment_text line) × (fault ≡ faults.Second))

-- reading the line gives this result
abbrev pub ReadsEntry : List ℕ → Result (Option Entry) EntryFault → Type 0
-- there is no entry if its text is empty
ReadsEntry line (Ok None) = entry_text line ≡ []
-- the entry is the one that its text names, and its comment names none
ReadsEntry line (Ok (Some entry)) = (entry_text line ≢ []) × NamesEntry (entry_text line) entry
    × NamesNone (comment_text line)
-- the fault is the reason why a line whose text is not empty is refused
ReadsEntry line (Err fault) = (entry_text line ≢ []) × IsRefusedFor line fault
