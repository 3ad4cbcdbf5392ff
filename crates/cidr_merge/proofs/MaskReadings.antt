-- What a line says whose entry may be an IPv4 address and its mask or wildcard can be computed.
use Rattle.cidr_merge.proofs.Words.{◌≡◌, ◌≢◌, ◌↔◌, ◌∙◌, ℕ, Bool, true, false, List, [], ◌∷◌, refl, sym, ap, inl, inr, if◌then◌else◌, Option, None, Some, Result, Ok, Err, ip_of, answer_from, NamesIp, Reads, AddrParseError, Ip, IpAddr, CidrFault, ip_network_of, ReadsIpNetwork, IpNetwork, MaskIsComputed, comment_text, entry_text, IsRefusedWithMasks, NamesWithMasks, ReadsWithMasks, SaysNone, SaysSome, Entry, EntryFault, is_ok, entry_alone, entry_by_words, masked_entry, masked_or_none, masked_reading, plain_entry, says_by_words, text_entry}
use Rattle.cidr_merge.proofs.Readings.{comment_names, comment_names_none, entry_is, fault_is}
use Rattle.cidr_merge.proofs.TwoWords.{AreAddressTexts, masked_is, not_masked, one_word, unclear_is}
use Rattle.lists.specs.declared.entry.EntryFault.TheVariants as causes

module _ (networks : (text : List ℕ) (result : Result IpNetwork CidrFault)
    → ReadsIpNetwork text result ↔ (result ≡ ip_network_of text))
    (addresses : (text : List ℕ) (result : Result IpAddr AddrParseError)
    → Reads NamesIp Ip text result ↔ (result ≡ answer_from Ip (ip_of text)))
    (texts : AreAddressTexts) (masks : MaskIsComputed) where
  words_name : (text : List ℕ) (entry : Entry) → NamesWithMasks text entry
      → entry_by_words text (masked_entry text) ≡ Ok entry
  words_name text entry (inl named) =
      ap (entry_by_words text) (one_word texts masks text entry named) ∙ entry_is networks addresses text entry named
  words_name text entry (inr masked) = ap (entry_by_words text) (masked_is texts masks text entry masked)

  words_say : (text : List ℕ) → SaysSome text → says_by_words text (masked_entry text) ≡ true
  words_say text (inl (entry, inl named)) =
      ap (says_by_words text) (one_word texts masks text entry named)
      ∙ comment_names networks addresses text (entry, named)
  words_say text (inl (entry, inr masked)) = ap (says_by_words text) (masked_is texts masks text entry masked)
  words_say text (inr unclear) = ap (says_by_words text) (unclear_is texts masks text unclear)

  no_words : (text : List ℕ) → SaysNone text → masked_entry text ≡ Ok None
  no_words text (none, clear) = not_masked texts masks text (λ entry masked. none entry (inr masked)) clear

  words_say_none : (text : List ℕ) → SaysNone text → says_by_words text (masked_entry text) ≡ false
  words_say_none text says =
      ap (says_by_words text) (no_words text says)
      ∙ comment_names_none networks addresses text (λ entry named. says.0 entry (inl named))

  some_words : (comment text : List ℕ) → text ≢ [] → masked_or_none comment text
      ≡ entry_alone (says_by_words comment (masked_entry comment)) (entry_by_words text (masked_entry text))
  some_words comment [] some = absurd (some refl)
  some_words comment (byte ∷ text) some = refl

  module _ (line : List ℕ) (some : entry_text line ≢ []) where
    -- whether the comment says some too
    abbrev second : Bool
    second = says_by_words (comment_text line) (masked_entry (comment_text line))

    by_entry : (read : Result Entry EntryFault)
        → entry_by_words (entry_text line) (masked_entry (entry_text line)) ≡ read
        → masked_reading line ≡ entry_alone second read
    by_entry read e = some_words (comment_text line) (entry_text line) some ∙ ap (entry_alone second) e

    masks_refused : (fault : EntryFault) → IsRefusedWithMasks line fault → masked_reading line ≡ Err fault
    masks_refused fault (inl (unclear, is)) =
        by_entry (Err causes.Mask) (ap (entry_by_words (entry_text line)) (unclear_is texts masks (entry_text line) unclear))
        ∙ ap Err (sym is)
    masks_refused fault (inr (inl (entry, named, says, is))) =
        by_entry (Ok entry) (words_name (entry_text line) entry named)
        ∙ ap (λ (b : Bool). if b then Err causes.Second else Ok (Some entry)) (words_say (comment_text line) says)
        ∙ ap Err (sym is)
    masks_refused fault (inr (inr (says, cause))) =
        by_entry (Err fault) (ap (entry_by_words (entry_text line)) (no_words (entry_text line) says)
        ∙ fault_is networks addresses (entry_text line) fault cause (λ entry named. says.0 entry (inl named)))

  pub masked_as_computed : (line : List ℕ) (reading : Result (Option Entry) EntryFault) → ReadsWithMasks line reading
      → reading ≡ masked_reading line
  masked_as_computed line (Ok None) h = sym (ap (masked_or_none (comment_text line)) h)
  masked_as_computed line (Ok (Some entry)) (some, named, none) =
      sym (by_entry line some (Ok entry) (words_name (entry_text line) entry named)
      ∙ ap (λ (b : Bool). if b then Err causes.Second else Ok (Some entry)) (words_say_none (comment_text line) none))
  masked_as_computed line (Err fault) (some, refused) = sym (masks_refused line some fault refused)
