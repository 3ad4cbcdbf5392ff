-- What a line in the form of another program says can be computed.
use Rattle.cidr_merge.proofs.Words.{◌≡◌, ◌↔◌, ◌∙◌, ℕ, Bool, true, false, List, refl, sym, ap, if◌then◌else◌, Option, None, Some, Result, Ok, Err, MatchBool, bytes_eq, ip_of, answer_from, NamesIp, Reads, AddrParseError, Ip, IpAddr, CidrFault, ip_network_of, ReadsIpNetwork, IpNetwork, Entry, Range, EntryFault, LineForm, MaskIsComputed, ReadsCsvNetwork, ReadsIn, ReadsPart, csv_head, csv_line, first_word, ipset_part, is_command, is_nft_frame, nft_part, second_field, alone, another_form, part_reading, printed_network, reading_in}
use Rattle.cidr_merge.proofs.MaskReadings.{masked_as_computed}
use Rattle.cidr_merge.proofs.TwoWords.{AreAddressTexts}
use Rattle.cidr_merge.proofs.Readings.{entry_is, fault_is, network_is, not_true, read_as_computed}
use Rattle.lists.specs.declared.entry.Entry.TheVariants.{Network}
use Rattle.lists.specs.declared.forms.LineForm.TheVariants.{Plain, Csv, Ipset, Nft}
use Rattle.std.proofs.lemmas.Slice.Eq.{bytes_eq-Decides}

-- a line that says nothing, by a test, or else what another clause says
by_test : (says_nothing : Bool) (reading other : Result (Option Entry) EntryFault) (Other : Type 0)
    → (Other → reading ≡ other) → MatchBool says_nothing (reading ≡ Ok None) Other
    → reading ≡ (if says_nothing then Ok None else other)
by_test true reading other Other is h = h
by_test false reading other Other is h = is h

module _ (networks : (text : List ℕ) (result : Result IpNetwork CidrFault)
    → ReadsIpNetwork text result ↔ (result ≡ ip_network_of text))
    (addresses : (text : List ℕ) (result : Result IpAddr AddrParseError)
    → Reads NamesIp Ip text result ↔ (result ≡ answer_from Ip (ip_of text)))
    (texts : AreAddressTexts) (masks : MaskIsComputed) where
  part_is : (line : List ℕ) (part : Option (List ℕ)) (reading : Result (Option Entry) EntryFault)
      → ReadsPart line part reading → reading ≡ part_reading line part
  part_is line None reading h = h
  part_is line (Some text) (Ok None) h = absurd h
  part_is line (Some text) (Ok (Some entry)) h = sym (ap alone (entry_is networks addresses text entry h))
  part_is line (Some text) (Err fault) h = sym (ap alone (fault_is networks addresses text fault h.0 h.1))

  abbrev printed : List ℕ → IpNetwork → Bool → Result (Option Entry) EntryFault
  printed line n same = if same then Ok (Some (Network n)) else another_form line

  csv_is : (line : List ℕ) (reading : Result (Option Entry) EntryFault) → ReadsCsvNetwork line reading
      → reading ≡ printed_network line (ip_network_of (second_field line))
  csv_is line (Ok None) h = absurd h
  csv_is line (Ok (Some (Network n))) h =
      sym (ap (printed_network line) (network_is networks addresses (second_field line) n h.0)
      ∙ ap (printed line n) ((bytes_eq-Decides line (csv_line n)).1 h.1))
  csv_is line (Ok (Some (Range first last))) h = absurd h
  csv_is line (Err fault) h = by (ip_network_of (second_field line)) refl where
    by : (read : Result IpNetwork CidrFault) → ip_network_of (second_field line) ≡ read
        → ◌≡◌ {A = Result (Option Entry) EntryFault} (Err fault) (printed_network line (ip_network_of (second_field line)))
    by (Ok n) e =
        let other : bytes_eq line (csv_line n) ≡ false = not_true (bytes_eq line (csv_line n)) (λ same.
        h.1 n ((networks (second_field line) (Ok n)).1 (sym e), (bytes_eq-Decides line (csv_line n)).0 same)) in
        ap Err h.0 ∙ sym (ap (printed_network line) e ∙ ap (printed line n) other)
    by (Err cause) e = ap Err h.0 ∙ sym (ap (printed_network line) e)

  pub form_read : (form : LineForm) (takes : Bool) (line : List ℕ) (reading : Result (Option Entry) EntryFault)
      → ReadsIn form takes line reading → reading ≡ reading_in form takes line
  form_read Plain false line reading h = read_as_computed networks addresses line reading h
  form_read Plain true line reading h = masked_as_computed networks addresses texts masks line reading h
  form_read Csv takes line reading h = by_test (bytes_eq line csv_head) reading _ (ReadsCsvNetwork line reading)
      (csv_is line reading) h
  form_read Ipset takes line reading h = by_test (is_command (first_word line)) reading _
      (ReadsPart line (ipset_part line) reading) (part_is line (ipset_part line) reading) h
  form_read Nft takes line reading h = by_test (is_nft_frame line) reading _
      (ReadsPart line (nft_part line) reading) (part_is line (nft_part line) reading) h
