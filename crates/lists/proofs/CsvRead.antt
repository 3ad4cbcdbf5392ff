-- A line of comma-separated values is compared with that of the network in its second field.
use Rattle.lists.proofs.Words.{◌≡◌, ◌≢◌, ◌∙◌, ℕ, Bool, true, false, true≢false, List, Option, None, Some, Result, Ok, Err, MatchBool, ap, subst, sym, refl, bytes_eq, Entry, EntryFault, IpNetwork, NamesIpNetwork, IsLineOf, ReadsCsv, ReadsCsvNetwork, csv_head, csv_line, second_field}
use Rattle.std.specs.Prelude.{Decides}
use Rattle.std.proofs.lemmas.Slice.Eq.{bytes_eq-Decides}
use Rattle.lists.specs.Encodings.{encoding_of}
use Rattle.lists.specs.Entries.{told_cause}
use Rattle.lists.specs.declared.entry.Entry.TheVariants as entries
use Rattle.lists.specs.declared.entry.EntryFault.TheVariants as faults

abbrev pub OneNetwork : Type 0
OneNetwork = (text : List ℕ) (a b : IpNetwork) → NamesIpNetwork text a → NamesIpNetwork text b → a ≡ b

-- a line other than the first one is read as that of a network
pub after_line : (line : List ℕ) (result : Result (Option Entry) EntryFault) → bytes_eq line csv_head ≡ false
    → ReadsCsvNetwork line result → ReadsCsv line result
after_line line result is reads =
    subst (λ t. MatchBool t (result ≡ Ok None) (ReadsCsvNetwork line result)) (sym is) reads

module _ (line text : List ℕ) (field : text ≡ second_field line) where
  named_in : (n : IpNetwork) → IsLineOf line n → NamesIpNetwork text n
  named_in n h = subst (λ t. NamesIpNetwork t n) (sym field) h.0

  pub no_network : ((n : IpNetwork) → ¬ (NamesIpNetwork text n)) → (n : IpNetwork) → ¬ (IsLineOf line n)
  no_network none n h = none n (named_in n h)

  another_line : OneNetwork → (m : IpNetwork) → NamesIpNetwork text m → line ≢ csv_line m
      → (n : IpNetwork) → ¬ (IsLineOf line n)
  another_line one m named differs n h = differs (h.1 ∙ ap csv_line (one text n m (named_in n h) named))

  its_line : (n : IpNetwork) → NamesIpNetwork text n → line ≡ csv_line n → IsLineOf line n
  its_line n named is = (subst (λ t. NamesIpNetwork t n) field named, is)

  compared : OneNetwork → (n : IpNetwork) → NamesIpNetwork text n → (result : Result (Option Entry) EntryFault)
      → (same : Bool) → Decides same (line ≡ csv_line n)
      → MatchBool same (result ≡ Ok (Some (entries.Network n)))
      (result ≡ Err (told_cause (encoding_of line) faults.Format))
      → ReadsCsvNetwork line result
  compared one n named result true is gives =
      subst (λ r. ReadsCsvNetwork line r) (sym gives) (its_line n named (is.0 refl))
  compared one n named result false differs gives =
      subst (λ r. ReadsCsvNetwork line r) (sym gives) (refl, another_line one n named (λ same. true≢false (sym (differs.1 same))))

  pub reads : OneNetwork → (n : IpNetwork) → NamesIpNetwork text n → (result : Result (Option Entry) EntryFault)
      → MatchBool (bytes_eq line (csv_line n)) (result ≡ Ok (Some (entries.Network n)))
      (result ≡ Err (told_cause (encoding_of line) faults.Format))
      → ReadsCsvNetwork line result
  reads one n named result gives =
      compared one n named result (bytes_eq line (csv_line n)) (bytes_eq-Decides line (csv_line n)) gives
