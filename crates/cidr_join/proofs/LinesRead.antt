-- How a line of a list is read.
use Rattle.cidr_join.proofs.Words.{◌≡◌, ℕ, ◌-◌, ◌≤◌, Bool, true, false, List, length, take, take_rest, drop, refl, inl, inr, sym, ap, subst, ◌∙◌, Option, None, Some, Ok, result_ok, answer_from, ip_of, IsRange, ReadsEntry, Entry, two_of, are_alike, entry_len, entry_part, first_word, value_part, trimmed, is_skipped, Pair, addresses_of, value_behind, value_of, HasEntry, Names, NamesNone, SaysSomething, LineFaults, Cause}
use Rattle.lists.specs.declared.entry.Entry.TheVariants as entries
use Rattle.lists.specs.declared.entry.EntryFault.TheVariants as faults
use Rattle.cidr_join.specs.declared.line.Cause.TheVariants as causes

-- the address in what reading a text returns
pub answered : {A E : Type 0} (error : E) (address : Option A) → result_ok (answer_from error address) ≡ address
answered error None = refl
answered error (Some address) = refl

-- the parts of a text that are read as addresses
module _ (text value : List ℕ) (end : ℕ) (at : end ≡ entry_len text)
    (part : value ≡ value_part (take (length text - end) (drop end text))) where
  pub front_is : take end text ≡ entry_part text
  front_is = ap (λ n. take n text) at

  pub value_is : value ≡ value_of text
  value_is = part ∙ ap value_part (take_rest text end) ∙ ap (λ n. value_part (drop n text)) at

  addresses_are : two_of (ip_of (take end text)) (ip_of (first_word value)) ≡ addresses_of text
  unfolding addresses_of
  addresses_are = ap (λ f. two_of (ip_of f) (ip_of (first_word value))) front_is
      ∙ ap (λ v. two_of (ip_of (entry_part text)) (ip_of (first_word v))) value_is

  pub two_here : (pairs : Option Pair) → pairs ≡ two_of (ip_of (take end text)) (ip_of (first_word value))
      → addresses_of text ≡ pairs
  two_here pairs e = sym (e ∙ addresses_are)

module _ (ranges : Bool) (text : List ℕ) (entry : Entry) (value : List ℕ) where
  alone : (r : Bool) → ReadsEntry (entry_part text) (Ok (Some entry)) → value ≡ value_of text
      → Names r text None entry value
  alone true reads is = (reads, is)
  alone false reads is = (refl, (reads, is))

  -- two addresses that are a range
  pub named_range : (pairs : Option Pair) (pair : Pair) → pairs ≡ Some pair → ranges ≡ true
      → entry ≡ entries.Range pair.first pair.second → IsRange pair.first pair.second
      → value ≡ value_behind (value_of text) → Names ranges text pairs entry value
  named_range pairs pair two asked is range behind =
      subst (λ (r : Bool). Names r text pairs entry value) (sym asked)
      (subst (λ (p : Option Pair). Names true text p entry value) (sym two) (is, range, behind))

  -- its entry, where no two addresses are
  pub named_alone : (pairs : Option Pair) → pairs ≡ None → ReadsEntry (entry_part text) (Ok (Some entry))
      → value ≡ value_of text → Names ranges text pairs entry value
  named_alone pairs none reads is =
      subst (λ (p : Option Pair). Names ranges text p entry value) (sym none) (alone ranges reads is)

  -- its entry, where two addresses are of two families and no ranges are asked for
  pub named_first : (pairs : Option Pair) → are_alike pairs ≡ false → ranges ≡ false
      → ReadsEntry (entry_part text) (Ok (Some entry)) → value ≡ value_of text → Names ranges text pairs entry value
  named_first pairs other asked reads is =
      subst (λ (r : Bool). Names r text pairs entry value) (sym asked) (other, (reads, is))

-- a line that says something, and its text
module _ (bare ranges : Bool) (line text : List ℕ) (short : length line ≤ 1024) (is : text ≡ trimmed line)
    (some : is_skipped text ≡ false) where
  something : SaysSomething line
  something = (short, sym (ap is_skipped is) ∙ some)

  pub line_fails : (cause : Cause) → NamesNone ranges text (addresses_of text) cause → LineFaults bare ranges line cause
  line_fails (causes.Entry fault) h =
      inl (something, subst (λ (t : List ℕ). NamesNone ranges t (addresses_of t) (causes.Entry fault)) is h)
  line_fails causes.Second h =
      (something, subst (λ (t : List ℕ). NamesNone ranges t (addresses_of t) causes.Second) is h)
  line_fails causes.Value h = absurd h
  line_fails causes.Twice h = absurd h
  line_fails causes.Length h = absurd h
  line_fails causes.HostBits h = absurd h

  pub second_fails : (entry : Entry) (value : List ℕ) → Names ranges text (addresses_of text) entry value
      → HasEntry value → LineFaults bare ranges line (causes.Entry faults.Second)
  second_fails entry value names has = inr (
    (
      something,
      (entry, value, subst (λ (t : List ℕ). Names ranges t (addresses_of t) entry value) is names, has),
    ),
    refl,
  )
