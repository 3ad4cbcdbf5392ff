-- The forms of lists: their own, and those of other programs, as `cidr_merge --format` prints them.
use Rattle.std.specs.Prelude.{◌≡◌, ◌==◌, ◌&&◌, ◌||◌, ◌-◌, ℕ, Bool, true, false, List, [], ◌∷◌, codes, length, take, bytes_eq}
use Rattle.std.specs.Prelude.{Option, None, Some, Result, Ok, Err, MatchBool, if◌then◌else◌, slice_index}
use Rattle.std.specs.Char.{is_ascii_alphanumeric}
use Rattle.lists.specs.CsvLines.{ReadsCsv}
use Rattle.lists.specs.Encodings.{encoding_of}
use Rattle.lists.specs.Entries.{IsEntryCause, NamesEntry, NamesNone, told_cause}
use Rattle.lists.specs.Lines.{without_front}
use Rattle.lists.specs.Masks.{ReadsAs, after_word, first_word}
use Rattle.lists.specs.declared.entry.Entry.{Entry}
use Rattle.lists.specs.declared.entry.EntryFault.{EntryFault}
use Rattle.lists.specs.declared.entry.EntryFault.TheVariants as faults
use Rattle.lists.specs.declared.forms.LineForm.{LineForm}
use Rattle.lists.specs.declared.forms.LineForm.TheVariants.{Plain, Csv, Ipset, Nft}
use Rattle.lists.specs.declared.rules.Rules.{Rules}

-- ---- a line with an entry and other texts

-- reading the text, which has to be an entry, gives this result
abbrev pub ReadsAlone : List ℕ → Result (Option Entry) EntryFault → Type 0
ReadsAlone text (Ok None) = ⊥
ReadsAlone text (Ok (Some entry)) = NamesEntry text entry
ReadsAlone text (Err fault) = IsEntryCause text fault × NamesNone text

-- reading the line gives this result, where this part of it has to be an entry; a line without such a part is refused
abbrev pub ReadsPart : List ℕ → Option (List ℕ) → Result (Option Entry) EntryFault → Type 0
ReadsPart line None result = result ≡ Err (told_cause (encoding_of line) faults.Format)
ReadsPart line (Some text) result = ReadsAlone text result

-- ---- ipset

-- the word is a command that adds no element
abbrev pub is_command : List ℕ → Bool
is_command word = bytes_eq word (codes "create") || bytes_eq word (codes "flush") || bytes_eq word (codes "swap")
    || bytes_eq word (codes "destroy")

-- what follows the name of the set in a line that adds an element
abbrev pub ipset_part : List ℕ → Option (List ℕ)
ipset_part line = if bytes_eq (first_word line) (codes "add") then Some (after_word (after_word line)) else None

abbrev pub ReadsIpset : List ℕ → Result (Option Entry) EntryFault → Type 0
ReadsIpset line result =
    MatchBool (is_command (first_word line)) (result ≡ Ok None) (ReadsPart line (ipset_part line) result)

-- ---- nftables

-- the byte may be in the name of a set or of a table: it is an ASCII letter, a digit, `_` (95), `-` (45) or `.` (46)
abbrev pub is_name_byte : ℕ → Bool
is_name_byte byte = is_ascii_alphanumeric byte || byte == 95 || byte == 45 || byte == 46

-- the text is this pattern, in which each `*` (42) is a name: as many bytes of names as there are, at least one
abbrev pub fits : List ℕ → List ℕ → Bool
fits [] [] = true
fits [] (byte ∷ text) = false
fits (sign ∷ signs) [] = false
fits (sign ∷ signs) (byte ∷ text) =
    if sign == 42 then is_name_byte byte && fits signs (without_front is_name_byte (byte ∷ text))
    else sign == byte && fits signs text

-- the line is one that creates a table or a set
abbrev pub creates : List ℕ → Bool
creates line =
    fits (codes "add table inet *") line
    || fits (codes "add set inet * * { type ipv4_addr; flags interval; }") line
    || fits (codes "add set inet * * { type ipv6_addr; flags interval; }") line

-- the line is one of those that are printed before and after the elements of sets
abbrev pub is_nft_frame : List ℕ → Bool
is_nft_frame line =
    creates line
    || fits (codes "flush set inet * *") line
    || fits (codes "add element inet * * {") line || bytes_eq line (codes "}")

-- the text without one comma (44) at its end
abbrev pub without_comma : List ℕ → List ℕ
without_comma text =
    if slice_index text (length text - 1) == 44 then take (length text - 1) text else text

-- of a line that begins with a tab (9), what follows it, without a comma at its end
abbrev pub nft_part : List ℕ → Option (List ℕ)
nft_part [] = None
nft_part (byte ∷ text) = if byte == 9 then Some (without_comma text) else None

abbrev pub ReadsNft : List ℕ → Result (Option Entry) EntryFault → Type 0
ReadsNft line result = MatchBool (is_nft_frame line) (result ≡ Ok None) (ReadsPart line (nft_part line) result)

-- ---- all forms

-- reading the line in this form gives this result, where a mask or wildcard may be a second word (`true`) or not
abbrev pub ReadsIn : LineForm → Bool → List ℕ → Result (Option Entry) EntryFault → Type 0
ReadsIn Plain masks line result = ReadsAs masks line result
ReadsIn Csv masks line result = ReadsCsv line result
ReadsIn Ipset masks line result = ReadsIpset line result
ReadsIn Nft masks line result = ReadsNft line result

-- reading the line by these rules gives this result
abbrev pub ReadsEntryBy : Rules → List ℕ → Result (Option Entry) EntryFault → Type 0
ReadsEntryBy rules line result = ReadsIn rules.form rules.takes_masks line result
