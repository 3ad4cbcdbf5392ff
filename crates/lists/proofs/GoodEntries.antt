-- An entry that a line is read as is a network or a range, in each form.
use Rattle.lists.proofs.Words.{◌≡◌, ◌≢◌, ◌⊎◌, inl, inr, ℕ, Bool, true, false, List, Option, None, Some, Result, Ok, Err, MatchBool, Entry, EntryFault, IsGoodEntry, NamesEntry, ReadsEntry, ReadsPart, bytes_eq, csv_head, ipset_part, is_command, is_nft_frame, nft_part}
use Rattle.lists.specs.Entries.{entry_text}
use Rattle.lists.specs.LineForms.{ReadsIn}
use Rattle.lists.specs.Masks.{NamesWithMasks, ReadsWithMasks, first_word}
use Rattle.lists.specs.declared.entry.Entry.TheVariants.{Network, Range}
use Rattle.lists.specs.declared.forms.LineForm.{LineForm}
use Rattle.lists.specs.declared.forms.LineForm.TheVariants.{Plain, Csv, Ipset, Nft}

abbrev read_as : Entry → Result (Option Entry) EntryFault
read_as entry = Ok (Some entry)

abbrev nothing : Result (Option Entry) EntryFault
nothing = Ok None

-- a line that is read as an entry is none of those that say nothing
says_some : (test : Bool) (entry : Entry) (other : Type 0) → MatchBool test (read_as entry ≡ nothing) other → other
says_some true entry other is = absurd (cc)
says_some false entry other says = says

named : (text : List ℕ) (entry : Entry) → NamesEntry text entry → IsGoodEntry entry
named text (Network n) names = tt
named text (Range first last) (dash, ends, range) = range

named_masked : (text : List ℕ) (entry : Entry) → NamesWithMasks text entry → IsGoodEntry entry
named_masked text (Network n) names = tt
named_masked text (Range first last) (inl names) = named text (Range first last) names
named_masked text (Range first last) (inr masked) = absurd masked

in_part : (line : List ℕ) (part : Option (List ℕ)) (entry : Entry) → ReadsPart line part (read_as entry)
    → IsGoodEntry entry
in_part line None entry is = absurd (cc)
in_part line (Some text) entry names = named text entry names

pub good_entry : (form : LineForm) (masks : Bool) (line : List ℕ) (entry : Entry)
    → ReadsIn form masks line (read_as entry) → IsGoodEntry entry
good_entry Plain false line entry (some, names, alone) = named (entry_text line) entry names
good_entry Plain true line entry (some, names, alone) = named_masked (entry_text line) entry names
good_entry Csv masks line (Network n) reads = tt
good_entry Csv masks line (Range first last) reads =
    absurd (says_some (bytes_eq line csv_head) (Range first last) ⊥ reads)
good_entry Ipset masks line entry reads =
    in_part line (ipset_part line) entry
    (says_some (is_command (first_word line)) entry (ReadsPart line (ipset_part line) (read_as entry)) reads)
good_entry Nft masks line entry reads =
    in_part line (nft_part line) entry
    (says_some (is_nft_frame line) entry (ReadsPart line (nft_part line) (read_as entry)) reads)
