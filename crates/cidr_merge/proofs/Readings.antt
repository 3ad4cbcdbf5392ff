-- What a line says can be computed.
use Rattle.cidr_merge.proofs.Words.{◌≡◌, ◌≢◌, ◌↔◌, ◌∙◌, ◌<◌, ◌≤◌, ℕ, Bool, true, false, List, [], ◌∷◌, length, refl, sym, ap, subst, arith, inl, inr, nat_lt, nat_le, if◌then◌else◌, Option, None, Some, Result, Ok, Err, before_first, after_first, position_or_len, lt-ltb, ltb-true, le-leb, leb-true, ip_of, answer_from, NamesIp, Reads, AddrParseError, Ip, IpAddr, V4, V6, slashes, before_slash, CidrFault, ip_network_of, NamesIpNetwork, ReadsIpNetwork, IpNetwork, comment_text, entry_text, is_dash, is_ok, HasDash, IsEntryCause, IsPlainCause, IsRange, IsRefusedFor, NamesEntry, NamesNone, NamesSome, ReadsEntry, trimmed, Entry, Range, EntryFault, address_or_prefix, as_said, entry_or_none, is_range, network_entry, network_fault, range_between, reading_of, reading_in, Rules, plain_entry, said_by, some_entry, text_entry, told_entry}
use Rattle.lists.specs.declared.entry.Entry.TheVariants.{Network}
use Rattle.lists.specs.declared.entry.EntryFault.TheVariants as causes
use Rattle.lists.specs.declared.fault.LineFault.TheVariants as faults

-- ---- tests

pub not_true : (b : Bool) → ¬ (b ≡ true) → b ≡ false
not_true true n = absurd (n refl)
not_true false n = refl

pub true_false : ¬ (true ≡ false)
true_false e = cc

ok_is : (a b : Entry) → ◌≡◌ {A = Result Entry EntryFault} (Ok a) (Ok b) → a ≡ b
ok_is a b e = cc

no_less : (a b : ℕ) → ¬ (a < b) → nat_lt a b ≡ false
no_less a b n = not_true (nat_lt a b) (λ e. n (ltb-true a b e))

range_is : (first last : IpAddr) → IsRange first last → is_range first last ≡ true
range_is (V4 first) (V4 last) l = le-leb first last l
range_is (V4 first) (V6 last) l = absurd l
range_is (V6 first) (V4 last) l = absurd l
range_is (V6 first) (V6 last) l = le-leb first last l

range_of : (first last : IpAddr) → is_range first last ≡ true → IsRange first last
range_of (V4 first) (V4 last) e = leb-true first last e
range_of (V4 first) (V6 last) e = absurd (let q = e in cc)
range_of (V6 first) (V4 last) e = absurd (let q = e in cc)
range_of (V6 first) (V6 last) e = leb-true first last e

no_range : (first last : IpAddr) → ¬ (IsRange first last) → is_range first last ≡ false
no_range (V4 first) (V4 last) n = not_true (nat_le first last) (λ e. n (leb-true first last e))
no_range (V4 first) (V6 last) n = refl
no_range (V6 first) (V4 last) n = refl
no_range (V6 first) (V6 last) n = not_true (nat_le first last) (λ e. n (leb-true first last e))

-- ---- texts

module _ (networks : (text : List ℕ) (result : Result IpNetwork CidrFault)
    → ReadsIpNetwork text result ↔ (result ≡ ip_network_of text))
    (addresses : (text : List ℕ) (result : Result IpAddr AddrParseError)
    → Reads NamesIp Ip text result ↔ (result ≡ answer_from Ip (ip_of text))) where
  address_is : (text : List ℕ) (a : IpAddr) → NamesIp text a → ip_of text ≡ Some a
  address_is text a named = by (ip_of text) ((addresses text (Ok a)).0 named) where
    by : (o : Option IpAddr) → ◌≡◌ {A = Result IpAddr AddrParseError} (Ok a) (answer_from Ip o)
        → o ≡ Some a
    by None e = cc
    by (Some b) e = cc

  no_address : (text : List ℕ) → ((a : IpAddr) → ¬ (NamesIp text a)) → ip_of text ≡ None
  no_address text none = by (ip_of text) refl where
    by : (o : Option IpAddr) → ip_of text ≡ o → ip_of text ≡ None
    by None e = e
    by (Some a) e = absurd (none a ((addresses text (Ok a)).1 (sym (ap (answer_from Ip) e))))

  pub network_is : (text : List ℕ) (n : IpNetwork) → NamesIpNetwork text n → ip_network_of text ≡ Ok n
  network_is text n named = sym ((networks text (Ok n)).0 named)

  no_network : (text : List ℕ) → ((n : IpNetwork) → ¬ (NamesIpNetwork text n))
      → network_entry text (ip_network_of text) ≡ Err (network_fault text)
  no_network text none = by (ip_network_of text) refl where
    by : (r : Result IpNetwork CidrFault) → ip_network_of text ≡ r
        → network_entry text (ip_network_of text) ≡ Err (network_fault text)
    by (Ok n) e = absurd (none n ((networks text (Ok n)).1 (sym e)))
    by (Err cause) e = ap (network_entry text) e

  -- with a `-` a text names a range, and without one a network
  with_dash : (text : List ℕ) → HasDash text → plain_entry text
      ≡ range_between (ip_of (trimmed (before_first is_dash text)))
      (ip_of (trimmed (after_first is_dash text)))
  with_dash text dash = rw (lt-ltb (position_or_len is_dash text) (length text) dash)

  without_dash : (text : List ℕ) → ¬ (HasDash text)
      → plain_entry text ≡ network_entry text (ip_network_of text)
  without_dash text none = rw (no_less (position_or_len is_dash text) (length text) none)

  ends_are : (text : List ℕ) (first last : IpAddr) → HasDash text
      → NamesIp (trimmed (before_first is_dash text)) first
      → NamesIp (trimmed (after_first is_dash text)) last
      → plain_entry text ≡ range_between (Some first) (Some last)
  ends_are text first last dash before after =
      with_dash text dash ∙ ap (λ o. range_between o (ip_of (trimmed (after_first is_dash text))))
      (address_is _ first before) ∙ ap (range_between (Some first)) (address_is _ last after)

  plain_entry_is : (text : List ℕ) (entry : Entry) → NamesEntry text entry → plain_entry text ≡ Ok entry
  plain_entry_is text (Network n) (none, named) =
      without_dash text none ∙ ap (network_entry text) (network_is text n named)
  plain_entry_is text (Range first last) (dash, ends, range) =
      ends_are text first last dash ends.0 ends.1
      ∙ ap (λ (b : Bool). if b then Ok (Range first last) else Err causes.Range)
      (range_is first last range)

  no_ends : (text : List ℕ) (before after : Option IpAddr)
      → ip_of (trimmed (before_first is_dash text)) ≡ before
      → ip_of (trimmed (after_first is_dash text)) ≡ after
      → ((first last : IpAddr) → ¬ (NamesIp (trimmed (before_first is_dash text)) first
      × NamesIp (trimmed (after_first is_dash text)) last))
      → range_between before after ≡ Err causes.Address
  no_ends text None after b a none = refl
  no_ends text (Some first) None b a none = refl
  no_ends text (Some first) (Some last) b a none = absurd (none first last (
    (addresses _ (Ok first)).1 (sym (ap (answer_from Ip) b)),
    (addresses _ (Ok last)).1 (sym (ap (answer_from Ip) a)),
  ))

  no_network_named : (text : List ℕ) → ¬ (HasDash text)
      → ((entry : Entry) → ¬ (NamesEntry text entry)) → plain_entry text ≡ Err (network_fault text)
  no_network_named text dash none =
      without_dash text dash ∙ no_network text (λ n named. none (Network n) (dash, named))

  -- a text with at most one `/`: the fault depends on the address before it
  few_slashes : (text : List ℕ) (o : Option IpAddr) → slashes text ≤ 1
      → ip_of (before_slash text) ≡ o → network_fault text ≡ address_or_prefix o
  few_slashes text o few e =
      ap (λ (b : Bool). if b then causes.Format else address_or_prefix (ip_of (before_slash text)))
      (no_less 1 (slashes text) (λ l. omega (arith, l, few))) ∙ ap address_or_prefix e

  plain_cause_is : (text : List ℕ) (cause : EntryFault) → IsPlainCause text cause
      → ((entry : Entry) → ¬ (NamesEntry text entry)) → plain_entry text ≡ Err cause
  plain_cause_is text causes.Format (dash, several) none =
      no_network_named text dash none
      ∙ ap (λ (b : Bool). Err (if b then causes.Format
      else address_or_prefix (ip_of (before_slash text))))
      (lt-ltb 1 (slashes text) several)
  plain_cause_is text causes.Address (inl (dash, (few, nobody))) none =
      no_network_named text dash none
      ∙ ap Err (few_slashes text None few (no_address (before_slash text) nobody))
  plain_cause_is text causes.Address (inr (dash, nobody)) none =
      with_dash text dash ∙ no_ends text _ _ refl refl nobody
  plain_cause_is text causes.Prefix (dash, (few, (a, named, bad))) none =
      no_network_named text dash none
      ∙ ap Err (few_slashes text (Some a) few (address_is (before_slash text) a named))
  plain_cause_is text causes.Range (dash, (first, last, ends, bad)) none =
      ends_are text first last dash ends.0 ends.1
      ∙ ap (λ (b : Bool). if b then Ok (Range first last) else Err causes.Range)
      (no_range first last bad)
  plain_cause_is text (causes.Encoding encoding) h none = absurd h
  plain_cause_is text causes.Second h none = absurd h
  plain_cause_is text causes.HostBits h none = absurd h
  plain_cause_is text causes.Mask h none = absurd h

  -- what a text is computed to name it names
  named_address : (text : List ℕ) (a : IpAddr) → ip_of text ≡ Some a → NamesIp text a
  named_address text a e = (addresses text (Ok a)).1 (sym (ap (answer_from Ip) e))

  named_range : (text : List ℕ) (entry : Entry) → HasDash text → (before after : Option IpAddr)
      → ip_of (trimmed (before_first is_dash text)) ≡ before → ip_of (trimmed (after_first is_dash text)) ≡ after
      → range_between before after ≡ Ok entry → NamesEntry text entry
  named_range text entry dash None after b a e = absurd (let q = e in cc)
  named_range text entry dash (Some first) None b a e = absurd (let q = e in cc)
  named_range text entry dash (Some first) (Some last) b a e = by (is_range first last) refl where
    by : (test : Bool) → is_range first last ≡ test → NamesEntry text entry
    by true in_order =
        let same : Ok (Range first last) ≡ Ok entry =
        ap (λ (t : Bool). if t then Ok (Range first last) else Err causes.Range) (sym in_order) ∙ e in
        subst (NamesEntry text) (ok_is (Range first last) entry same)
        (dash, (named_address _ first b, named_address _ last a), range_of first last in_order)
    by false out = absurd (let q = sym (ap (λ (t : Bool). if t then Ok (Range first last) else Err causes.Range) out) ∙ e in cc)

  named_network : (text : List ℕ) (entry : Entry) → ¬ (HasDash text) → (read : Result IpNetwork CidrFault)
      → ip_network_of text ≡ read → network_entry text read ≡ Ok entry → NamesEntry text entry
  named_network text entry dash (Ok n) is e =
      subst (NamesEntry text) (ok_is (Network n) entry e) (dash, (networks text (Ok n)).1 (sym is))
  named_network text entry dash (Err cause) is e = absurd (let q = e in cc)

  named_as_computed : (text : List ℕ) (entry : Entry) → plain_entry text ≡ Ok entry → NamesEntry text entry
  named_as_computed text entry e = by (nat_lt (position_or_len is_dash text) (length text)) refl where
    by : (dash : Bool) → nat_lt (position_or_len is_dash text) (length text) ≡ dash → NamesEntry text entry
    by true is = let dash = ltb-true (position_or_len is_dash text) (length text) is in
        named_range text entry dash _ _ refl refl (sym (with_dash text dash) ∙ e)
    by false is =
        let none : ¬ (HasDash text) = λ dash. true_false (sym (lt-ltb _ _ dash) ∙ is) in
        named_network text entry none _ refl (sym (without_dash text none) ∙ e)

  -- whether a comment names an entry
  pub comment_names : (text : List ℕ) → NamesSome text → is_ok (plain_entry text) ≡ true
  comment_names text (entry, named) = ap is_ok (plain_entry_is text entry named)

  pub comment_names_none : (text : List ℕ) → NamesNone text → is_ok (plain_entry text) ≡ false
  comment_names_none text none = by (plain_entry text) refl where
    by : (read : Result Entry EntryFault) → plain_entry text ≡ read → is_ok (plain_entry text) ≡ false
    by (Ok entry) e = absurd (none entry (named_as_computed text entry e))
    by (Err fault) e = ap is_ok e

  pub entry_is : (text : List ℕ) (entry : Entry) → NamesEntry text entry → text_entry text ≡ Ok entry
  entry_is text entry named = ap (told_entry text) (plain_entry_is text entry named)

  pub fault_is : (text : List ℕ) (fault : EntryFault) → IsEntryCause text fault
      → ((entry : Entry) → ¬ (NamesEntry text entry)) → text_entry text ≡ Err fault
  fault_is text fault (cause, is, e) none =
      ap (told_entry text) (plain_cause_is text cause is none) ∙ ap Err (sym e)

  -- ---- lines

  some_text : (comment text : List ℕ) → text ≢ [] → entry_or_none comment text ≡ some_entry comment (text_entry text)
  some_text comment [] some = absurd (some refl)
  some_text comment (byte ∷ text) some = refl

  module _ (line : List ℕ) (some : entry_text line ≢ []) where
    entry_read : (entry : Entry) → NamesEntry (entry_text line) entry → reading_of line
        ≡ (if is_ok (plain_entry (comment_text line)) then Err causes.Second else Ok (Some entry))
    entry_read entry named =
        some_text (comment_text line) (entry_text line) some
        ∙ ap (some_entry (comment_text line)) (entry_is (entry_text line) entry named)

    refused : (fault : EntryFault) → IsRefusedFor line fault → reading_of line ≡ Err fault
    refused fault (inl (cause, none)) =
        some_text (comment_text line) (entry_text line) some
        ∙ ap (some_entry (comment_text line)) (fault_is (entry_text line) fault cause none)
    refused fault (inr ((entry, named), second, is)) =
        entry_read entry named
        ∙ ap (λ (b : Bool). if b then Err causes.Second else Ok (Some entry)) (comment_names (comment_text line) second)
        ∙ ap Err (sym is)

  pub read_as_computed : (line : List ℕ) (reading : Result (Option Entry) EntryFault) → ReadsEntry line reading
      → reading ≡ reading_of line
  read_as_computed line (Ok None) h = sym (ap (entry_or_none (comment_text line)) h)
  read_as_computed line (Ok (Some entry)) h =
      sym (entry_read line h.0 entry h.1
      ∙ ap (λ (b : Bool). if b then Err causes.Second else Ok (Some entry)) (comment_names_none (comment_text line) h.2))
  read_as_computed line (Err fault) h = sym (refused line h.0 fault h.1)

-- ---- what a line says

pub said_is : (rules : Rules) (line : List ℕ) (reading : Result (Option Entry) EntryFault)
    → length line ≤ 1024 → reading ≡ reading_in rules.form rules.takes_masks line → as_said rules reading ≡ said_by rules line
said_is rules line reading short e =
    ap (as_said rules) e ∙ sym (rw (no_less 1024 (length line) (λ l. omega (arith, l, short))))

pub too_long : (rules : Rules) (line : List ℕ) → 1024 < length line → Err faults.Length ≡ said_by rules line
too_long rules line long = sym (rw (lt-ltb 1024 (length line) long))
