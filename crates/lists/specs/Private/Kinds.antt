-- The two kinds of entries, networks and ranges, each by itself.
use Rattle.std.specs.Prelude.{ℕ, List, Result, MatchResult}
use Rattle.ipnetwork.specs.IpNetworkText.{NamesIpNetwork, IsIpCause}
use Rattle.ipnetwork.specs.declared.ip_network.IpNetwork.{IpNetwork}
use Rattle.ipnetwork_addr.specs.declared.ip.IpAddr.{IpAddr}
use Rattle.ipnetwork_family.specs.declared.error.CidrFault.TheVariants as causes
use Rattle.lists.specs.Entries.{NamesEnds, IsRange, NamesEntry, IsPlainCause}
use Rattle.lists.specs.declared.entry.Entry.{Entry}
use Rattle.lists.specs.declared.entry.Entry.TheVariants as entries
use Rattle.lists.specs.declared.entry.EntryFault.{EntryFault}
use Rattle.lists.specs.declared.entry.EntryFault.TheVariants as faults

-- the entry is the network that the text names
abbrev pub IsNamedNetwork : List ℕ → Entry → Type 0
IsNamedNetwork text (entries.Network n) = NamesIpNetwork text n
IsNamedNetwork text (entries.Range first last) = ⊥

-- this is why the text names no network
abbrev pub IsNetworkFault : List ℕ → EntryFault → Type 0
IsNetworkFault text faults.Format = IsIpCause text causes.Format
IsNetworkFault text faults.Address = IsIpCause text causes.Addr
IsNetworkFault text faults.Prefix = IsIpCause text causes.Prefix
IsNetworkFault text faults.Range = ⊥
IsNetworkFault text (faults.Encoding encoding) = ⊥
IsNetworkFault text faults.Second = ⊥
IsNetworkFault text faults.HostBits = ⊥
IsNetworkFault text faults.Mask = ⊥

-- reading the text gives the network that it names, or, if it names none, the reason
abbrev pub ReadsNetworkText : List ℕ → Result Entry EntryFault → Type 0
ReadsNetworkText text result =
    MatchResult result (IsNamedNetwork text) (λ fault. IsNetworkFault text fault
    × ((n : IpNetwork) → ¬ (NamesIpNetwork text n)))

-- the entry is the range between the ends that the two texts name
abbrev pub IsRangeOf : List ℕ → List ℕ → Entry → Type 0
IsRangeOf before after (entries.Network n) = ⊥
IsRangeOf before after (entries.Range first last) = NamesEnds before after first last × IsRange first last

-- this is why the two texts name the ends of no range
abbrev pub IsRangeFault : List ℕ → List ℕ → EntryFault → Type 0
IsRangeFault before after faults.Format = ⊥
IsRangeFault before after faults.Prefix = ⊥
IsRangeFault before after (faults.Encoding encoding) = ⊥
IsRangeFault before after faults.Second = ⊥
IsRangeFault before after faults.HostBits = ⊥
IsRangeFault before after faults.Mask = ⊥
IsRangeFault before after faults.Address = (first last : IpAddr) → ¬ (NamesEnds before after first last)
IsRangeFault before after faults.Range = (first : IpAddr) × (last : IpAddr) × NamesEnds before after first last
    × ¬ (IsRange first last)

-- reading the two texts gives the range between the ends that they name, or the reason why there is none
abbrev pub ReadsRange : List ℕ → List ℕ → Result Entry EntryFault → Type 0
ReadsRange before after result = MatchResult result (IsRangeOf before after) (IsRangeFault before after)

-- reading the text gives the entry that it names, or, if it names none, the reason as plain text
abbrev pub ReadsPlain : List ℕ → Result Entry EntryFault → Type 0
ReadsPlain text result = MatchResult result (NamesEntry text) (λ cause. IsPlainCause text cause
    × ((entry : Entry) → ¬ (NamesEntry text entry)))
