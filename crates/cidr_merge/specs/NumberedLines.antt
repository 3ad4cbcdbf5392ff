-- The numbered lines of lists, and what each line says, as a computation.
use Rattle.std.specs.Prelude.{ℕ, ◌+◌, ◌-◌, ◌^◌, ◌==◌, ◌||◌, Bool, true, false, List, [], ◌∷◌, ◌++◌, length, nat_lt, nat_le}
use Rattle.std.specs.Prelude.{Option, None, Some, Result, Ok, Err, if◌then◌else◌, bytes_eq}
use Rattle.std.specs.List.{before_first, after_first, position_or_len}
use Rattle.std.specs.Result.{is_ok}
use Rattle.std.specs.Str.Lines.{lines}
use Rattle.ipnetwork_addr.specs.Computed.Either.{ip_of}
use Rattle.ipnetwork_addr.specs.Computed.Ipv4Text.{v4_of}
use Rattle.ipnetwork_addr.specs.declared.ip.IpAddr.{IpAddr}
use Rattle.ipnetwork_addr.specs.declared.ip.IpAddr.TheVariants.{V4, V6}
use Rattle.ipnetwork_family.specs.Computed.Network.{prefix_of_mask}
use Rattle.ipnetwork_family.specs.NetworkText.{slashes, before_slash}
use Rattle.ipnetwork_family.specs.declared.error.CidrFault.{CidrFault}
use Rattle.ipnetwork.specs.Computed.IpNetworkText.{ip_network_of}
use Rattle.ipnetwork.specs.declared.ip_network.IpNetwork.{IpNetwork}
use Rattle.ipnetwork.specs.declared.ip_network.IpNetwork.TheVariants as networks
use Rattle.lists.specs.CsvLines.{csv_head, csv_line, second_field}
use Rattle.lists.specs.Encodings.{encoding_of}
use Rattle.lists.specs.Entries.{entry_text, is_dash, told_cause}
use Rattle.lists.specs.LineForms.{ipset_part, is_command, is_nft_frame, nft_part}
use Rattle.lists.specs.Lines.{comment_text, trimmed}
use Rattle.lists.specs.Masks.{after_word, first_word}
use Rattle.lists.specs.Rules.{refuses}
use Rattle.lists.specs.declared.entry.Entry.{Entry}
use Rattle.lists.specs.declared.entry.Entry.TheVariants.{Network, Range}
use Rattle.lists.specs.declared.entry.EntryFault.{EntryFault}
use Rattle.lists.specs.declared.entry.EntryFault.TheVariants as causes
use Rattle.lists.specs.declared.fault.LineFault.{LineFault}
use Rattle.lists.specs.declared.fault.LineFault.TheVariants as faults
use Rattle.lists.specs.declared.forms.LineForm.{LineForm}
use Rattle.lists.specs.declared.forms.LineForm.TheVariants.{Plain, Csv, Ipset, Nft}
use Rattle.lists.specs.declared.rules.Rules.{Rules}

-- a line: the index of its list, from 0, its number in the list, from 1, and its text
pub record NumberedLine : Type 0 where
  pub list : ℕ
  pub number : ℕ
  pub text : List ℕ

-- these texts as lines of a list; the first has this number
abbrev pub lines_from : ℕ → ℕ → List (List ℕ) → List NumberedLine
lines_from list number [] = []
lines_from list number (text ∷ texts) =
    record { list = list; number = number; text = text } ∷ lines_from list (1 + number) texts

-- all lines of lists with these bytes; the first list has this index
abbrev pub numbered_lines : ℕ → List (List ℕ) → List NumberedLine
numbered_lines list [] = []
numbered_lines list (text ∷ texts) =
    lines_from list 1 (lines text) ++ numbered_lines (1 + list) texts

-- ---- what a line says

-- whether the addresses are of one family, and the first is not greater than the last
abbrev pub is_range : IpAddr → IpAddr → Bool
is_range (V4 first) (V4 last) = nat_le first last
is_range (V4 first) (V6 last) = false
is_range (V6 first) (V4 last) = false
is_range (V6 first) (V6 last) = nat_le first last

-- the range between the addresses of two texts, if each text names one
abbrev pub range_between : Option IpAddr → Option IpAddr → Result Entry EntryFault
range_between (Some first) (Some last) =
    if is_range first last then Ok (Range first last) else Err causes.Range
range_between (Some first) None = Err causes.Address
range_between None last = Err causes.Address

-- why a text names no network: by whether there is an address before its `/`
abbrev pub address_or_prefix : Option IpAddr → EntryFault
address_or_prefix None = causes.Address
address_or_prefix (Some address) = causes.Prefix

-- the same, for any text: it has two or more `/`, or no address before the `/`, or no prefix length after it
abbrev pub network_fault : List ℕ → EntryFault
network_fault text =
    if nat_lt 1 (slashes text) then causes.Format else address_or_prefix (ip_of (before_slash text))

abbrev pub network_entry : List ℕ → Result IpNetwork CidrFault → Result Entry EntryFault
network_entry text (Ok n) = Ok (Network n)
network_entry text (Err cause) = Err (network_fault text)

-- the entry that a text names: a range if the text has a `-`, else a network
abbrev pub plain_entry : List ℕ → Result Entry EntryFault
plain_entry text =
    if nat_lt (position_or_len is_dash text) (length text)
    then range_between (ip_of (trimmed (before_first is_dash text)))
    (ip_of (trimmed (after_first is_dash text)))
    else network_entry text (ip_network_of text)

-- the same, except that the fault is the text's encoding if that is not one that is read
abbrev pub told_entry : List ℕ → Result Entry EntryFault → Result Entry EntryFault
told_entry text (Ok entry) = Ok entry
told_entry text (Err cause) = Err (told_cause (encoding_of text) cause)

abbrev pub text_entry : List ℕ → Result Entry EntryFault
text_entry text = told_entry text (plain_entry text)

-- the entry, unless the comment (its first words) names another
abbrev pub some_entry : List ℕ → Result Entry EntryFault → Result (Option Entry) EntryFault
some_entry comment (Ok entry) = if is_ok (plain_entry comment) then Err causes.Second else Ok (Some entry)
some_entry comment (Err fault) = Err fault

abbrev pub entry_or_none : List ℕ → List ℕ → Result (Option Entry) EntryFault
entry_or_none comment [] = Ok None
entry_or_none comment (byte ∷ text) = some_entry comment (text_entry (byte ∷ text))

-- the result of reading a line: its entry, nothing, or why the line is refused
abbrev pub reading_of : List ℕ → Result (Option Entry) EntryFault
reading_of line = entry_or_none (comment_text line) (entry_text line)

-- ---- a line whose entry may be an IPv4 address and its mask or wildcard

-- the number is a mask and a wildcard: 0.0.0.0 or 255.255.255.255
abbrev pub is_both : ℕ → Bool
is_both number = number == 0 || number == 2 ^ 32 - 1

-- the prefix length of a mask, or else of a wildcard, which is the complement of one
abbrev pub length_of_two : Option ℕ → Option ℕ → Option ℕ
length_of_two (Some p) other = Some p
length_of_two None other = other

abbrev pub length_by : ℕ → Option ℕ
length_by number = length_of_two (prefix_of_mask 32 number) (prefix_of_mask 32 (2 ^ 32 - 1 - number))

-- the network of an address and a prefix length, if there is one
abbrev pub network_by : ℕ → Option ℕ → Result (Option Entry) EntryFault
network_by address None = Ok None
network_by address (Some p) = Ok (Some (Network (networks.V4 (record { address = address; prefix = p }))))

-- the network of an address and the number after it, nothing if that is neither a mask nor a wildcard, or the fault that
-- it may mean one address or all; a number that is both means one address if that is not 0.0.0.0
abbrev pub network_of_two : ℕ → ℕ → Result (Option Entry) EntryFault
network_of_two address number =
    if is_both number then (if address == 0 then Err causes.Mask else network_by address (Some 32))
    else network_by address (length_by number)

-- the same of the addresses of two words, if each is one
abbrev pub entry_of_two : Option ℕ → Option ℕ → Result (Option Entry) EntryFault
entry_of_two (Some address) (Some number) = network_of_two address number
entry_of_two (Some address) None = Ok None
entry_of_two None number = Ok None

abbrev pub masked_entry : List ℕ → Result (Option Entry) EntryFault
masked_entry text = entry_of_two (v4_of (first_word text)) (v4_of (after_word text))

-- the entry of a text of two words, or else of one
abbrev pub entry_by_words : List ℕ → Result (Option Entry) EntryFault → Result Entry EntryFault
entry_by_words text (Ok None) = text_entry text
entry_by_words text (Ok (Some entry)) = Ok entry
entry_by_words text (Err fault) = Err fault

-- whether a text names an entry, of two words or of one, or may mean two
abbrev pub says_by_words : List ℕ → Result (Option Entry) EntryFault → Bool
says_by_words text (Ok None) = is_ok (plain_entry text)
says_by_words text (Ok (Some entry)) = true
says_by_words text (Err fault) = true

-- the entry, unless the comment says some too (`true`)
abbrev pub entry_alone : Bool → Result Entry EntryFault → Result (Option Entry) EntryFault
entry_alone second (Ok entry) = if second then Err causes.Second else Ok (Some entry)
entry_alone second (Err fault) = Err fault

abbrev pub masked_or_none : List ℕ → List ℕ → Result (Option Entry) EntryFault
masked_or_none comment [] = Ok None
masked_or_none comment (byte ∷ text) =
    entry_alone (says_by_words comment (masked_entry comment)) (entry_by_words (byte ∷ text) (masked_entry (byte ∷ text)))

abbrev pub masked_reading : List ℕ → Result (Option Entry) EntryFault
masked_reading line = masked_or_none (comment_text line) (entry_text line)

-- ---- a line in the form of another program

-- a line of another form is refused
abbrev pub another_form : List ℕ → Result (Option Entry) EntryFault
another_form line = Err (told_cause (encoding_of line) causes.Format)

-- the line, if it is exactly the one that is printed for this network
abbrev pub printed_network : List ℕ → Result IpNetwork CidrFault → Result (Option Entry) EntryFault
printed_network line (Ok n) = if bytes_eq line (csv_line n) then Ok (Some (Network n)) else another_form line
printed_network line (Err cause) = another_form line

abbrev pub csv_reading : List ℕ → Result (Option Entry) EntryFault
csv_reading line =
    if bytes_eq line csv_head then Ok None else printed_network line (ip_network_of (second_field line))

-- the part of a line that has to be an entry
abbrev pub alone : Result Entry EntryFault → Result (Option Entry) EntryFault
alone (Ok entry) = Ok (Some entry)
alone (Err fault) = Err fault

abbrev pub part_reading : List ℕ → Option (List ℕ) → Result (Option Entry) EntryFault
part_reading line None = another_form line
part_reading line (Some text) = alone (text_entry text)

-- the result of reading a line in this form; in a plain one a mask or wildcard may be a second word (`true`) or not
abbrev pub reading_in : LineForm → Bool → List ℕ → Result (Option Entry) EntryFault
reading_in Plain masks line = if masks then masked_reading line else reading_of line
reading_in Csv masks line = csv_reading line
reading_in Ipset masks line = if is_command (first_word line) then Ok None else part_reading line (ipset_part line)
reading_in Nft masks line = if is_nft_frame line then Ok None else part_reading line (nft_part line)

-- what is read of a line, unless these rules refuse its entry for its host bits
abbrev pub allowed : Rules → Option Entry → Result (Option Entry) LineFault
allowed rules None = Ok None
allowed rules (Some entry) = if refuses rules entry then Err (faults.Entry causes.HostBits) else Ok (Some entry)

-- what a line says: that result, unless the line is too long
abbrev pub as_said : Rules → Result (Option Entry) EntryFault → Result (Option Entry) LineFault
as_said rules (Ok said) = allowed rules said
as_said rules (Err fault) = Err (faults.Entry fault)

abbrev pub said_by : Rules → List ℕ → Result (Option Entry) LineFault
said_by rules line =
    if nat_lt 1024 (length line) then Err faults.Length else as_said rules (reading_in rules.form rules.takes_masks line)
