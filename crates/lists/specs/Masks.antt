-- Entries of two words: an IPv4 address, and its mask or wildcard.
use Rattle.std.specs.Prelude.{◌≡◌, ◌≢◌, ◌≤◌, ◌-◌, ◌^◌, ◌⊎◌, ℕ, Bool, true, false, not, List, [], take, drop}
use Rattle.std.specs.Prelude.{Option, None, Some, Result, Ok, Err}
use Rattle.std.specs.List.{prefix_len}
use Rattle.ipnetwork.specs.declared.ip_network.IpNetwork.TheVariants as networks
use Rattle.ipnetwork_addr.specs.Ipv4Text.{NamesV4}
use Rattle.lists.specs.Entries.{IsEntryCause, NamesEntry, ReadsEntry, entry_text}
use Rattle.lists.specs.Lines.{comment_text, is_blank, trimmed}
use Rattle.lists.specs.declared.entry.Entry.{Entry}
use Rattle.lists.specs.declared.entry.Entry.TheVariants as entries
use Rattle.lists.specs.declared.entry.EntryFault.{EntryFault}
use Rattle.lists.specs.declared.entry.EntryFault.TheVariants.{Mask, Second}

-- the number of 32 bits is the mask of this prefix length: its first p bits are ones, and the others zeros
abbrev pub IsMask : ℕ → ℕ → Type 0
IsMask number p = (p ≤ 32) × (number ≡ 2 ^ 32 - 2 ^ (32 - p))

-- the number of 32 bits is the wildcard of this prefix length: its first p bits are zeros, and the others ones
abbrev pub IsWildcard : ℕ → ℕ → Type 0
IsWildcard number p = (p ≤ 32) × (number ≡ 2 ^ (32 - p) - 1)

-- 0.0.0.0 and 255.255.255.255, and no other numbers, are a mask and a wildcard: of the prefix lengths 0 and 32
abbrev pub IsBoth : ℕ → Type 0
IsBoth number = (number ≡ 0) ⊎ (number ≡ 2 ^ 32 - 1)

-- the number after this address says this prefix length: that of the mask or wildcard that it is. Of a number that is
-- both it is the one by which the address has no host bits: 32, if the address is not 0
abbrev pub SaysLength : ℕ → ℕ → ℕ → Type 0
SaysLength address number p = (¬ (IsBoth number) × (IsMask number p ⊎ IsWildcard number p))
    ⊎ (IsBoth number × (address ≢ 0) × (p ≡ 32))

-- the byte is no blank
abbrev pub is_word_byte : ℕ → Bool
is_word_byte byte = not (is_blank byte)

-- the first word of a text, and what follows it, without the blanks around that
abbrev pub first_word : List ℕ → List ℕ
first_word text = take (prefix_len is_word_byte text) text

abbrev pub after_word : List ℕ → List ℕ
after_word text = trimmed (drop (prefix_len is_word_byte text) text)

-- the text has two words, the texts of these two IPv4 addresses
abbrev pub NamesTwo : List ℕ → ℕ → ℕ → Type 0
NamesTwo text address number = NamesV4 (first_word text) address × NamesV4 (after_word text) number

-- the text is an IPv4 address and its mask or wildcard, and so names this network, which keeps its host bits
abbrev pub NamesMasked : List ℕ → Entry → Type 0
NamesMasked text (entries.Network (networks.V4 n)) =
    (number : ℕ) × NamesTwo text n.address number × SaysLength n.address number n.prefix
NamesMasked text (entries.Network (networks.V6 n)) = ⊥
NamesMasked text (entries.Range first last) = ⊥

-- the text may mean one address or all: the address is 0.0.0.0, and the number after it is a mask and a wildcard
abbrev pub IsUnclear : List ℕ → Type 0
IsUnclear text = (number : ℕ) × NamesTwo text 0 number × IsBoth number

-- the text names an entry, of one word or of two
abbrev pub NamesWithMasks : List ℕ → Entry → Type 0
NamesWithMasks text entry = NamesEntry text entry ⊎ NamesMasked text entry

-- the text names an entry or is unclear; the text does neither
abbrev pub SaysSome : List ℕ → Type 0
SaysSome text = ((entry : Entry) × NamesWithMasks text entry) ⊎ IsUnclear text

abbrev pub SaysNone : List ℕ → Type 0
SaysNone text = ((entry : Entry) → ¬ (NamesWithMasks text entry)) × ¬ (IsUnclear text)

-- this is why the line is refused: its text is unclear; or it names an entry, and its comment says some too; or it says
-- none, and this is the reason why it names no entry of one word
abbrev pub IsRefusedWithMasks : List ℕ → EntryFault → Type 0
IsRefusedWithMasks line fault = (IsUnclear (entry_text line) × (fault ≡ Mask))
    ⊎ ((entry : Entry) × NamesWithMasks (entry_text line) entry × SaysSome (comment_text line) × (fault ≡ Second))
    ⊎ (SaysNone (entry_text line) × IsEntryCause (entry_text line) fault)

-- reading the line gives this result, where entries may be of two words
abbrev pub ReadsWithMasks : List ℕ → Result (Option Entry) EntryFault → Type 0
ReadsWithMasks line (Ok None) = entry_text line ≡ []
ReadsWithMasks line (Ok (Some entry)) = (entry_text line ≢ []) × NamesWithMasks (entry_text line) entry
    × SaysNone (comment_text line)
ReadsWithMasks line (Err fault) = (entry_text line ≢ []) × IsRefusedWithMasks line fault

abbrev pub ReadsAs : Bool → List ℕ → Result (Option Entry) EntryFault → Type 0
ReadsAs false line result = ReadsEntry line result
ReadsAs true line result = ReadsWithMasks line result
