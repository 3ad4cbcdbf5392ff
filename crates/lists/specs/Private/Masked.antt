-- How two words are read as an address and its mask or wildcard.
use Rattle.std.specs.Prelude.{◌≡◌, ◌⊎◌, ℕ, List, Option, None, Some, Result, Ok, Err}
use Rattle.lists.specs.Masks.{IsBoth, IsMask, IsUnclear, IsWildcard, NamesMasked, SaysLength}
use Rattle.lists.specs.declared.entry.Entry.{Entry}
use Rattle.lists.specs.declared.entry.EntryFault.{EntryFault}
use Rattle.lists.specs.declared.entry.EntryFault.TheVariants.{Mask}

-- the text is no address and its mask or wildcard, and it is not unclear
abbrev pub IsNotMasked : List ℕ → Type 0
IsNotMasked text = ((entry : Entry) → ¬ (NamesMasked text entry)) × ¬ (IsUnclear text)

-- reading the text gives the network of its two words, nothing if they are no address and its mask or wildcard, or the
-- fault that it may mean two
abbrev pub ReadsMasked : List ℕ → Result (Option Entry) EntryFault → Type 0
ReadsMasked text (Ok None) = IsNotMasked text
ReadsMasked text (Ok (Some entry)) = NamesMasked text entry
ReadsMasked text (Err fault) = IsUnclear text × (fault ≡ Mask)

-- the prefix length that the number after the address says, if it says one, or the fault that it may say two
abbrev pub GivesLength : ℕ → ℕ → Result (Option ℕ) EntryFault → Type 0
GivesLength address number (Ok None) = ((p : ℕ) → ¬ (SaysLength address number p)) × ¬ (IsBoth number)
GivesLength address number (Ok (Some p)) = SaysLength address number p
GivesLength address number (Err fault) = (address ≡ 0) × IsBoth number × (fault ≡ Mask)

-- the prefix length of the mask or wildcard that the number is, or none if it is neither
abbrev pub GivesOneLength : ℕ → Option ℕ → Type 0
GivesOneLength number (Some p) = IsMask number p ⊎ IsWildcard number p
GivesOneLength number None = (p : ℕ) → ¬ (IsMask number p ⊎ IsWildcard number p)
