-- A text is read by whether it holds a `-`.
use Rattle.lists.proofs.Words.{◌≡◌, ◌≢◌, ◌==◌, ◌+◌, ◌-◌, ℕ, true, false, List, [], length, take, drop, arith, sym, ap, ◌∙◌, subst, inl, inr, length-drop, Result, Ok, Err, position_or_len, eq-eqb, ne_eqb, take_all, position_or_len_is, IsAbsent, IsNext, NamesIpNetwork, IpNetwork, NamesEntry, HasDash, IsRange, is_dash, ReadsNetworkText, ReadsPlain, ReadsRange, Entry, Range, EntryFault}
use Rattle.lists.proofs.Readings.{OneAddress}
use Rattle.lists.specs.declared.entry.Entry.TheVariants.{Network}
use Rattle.lists.specs.declared.entry.EntryFault.TheVariants as faults

-- a part up to the end is the rest
pub rest_of : (text : List ℕ) (from : ℕ) → take (length text - from) (drop from text) ≡ drop from text
rest_of text from = take_all (length text - from) (drop from text) (omega (arith, length-drop from text))

-- the range between the ends at the first `-`
abbrev AtFirst : List ℕ → Result Entry EntryFault → Type 0
AtFirst text result = ReadsRange (take (position_or_len is_dash text) text)
    (drop (position_or_len is_dash text + 1) text) result

with_dash : OneAddress → (text : List ℕ) → HasDash text → (result : Result Entry EntryFault) → AtFirst text result
    → ReadsPlain text result
with_dash address text dash (Ok (Range first last)) named = (dash, named.0, named.1)
with_dash address text dash (Ok (Network n)) named = absurd named
with_dash address text dash (Err faults.Format) fault = absurd fault
with_dash address text dash (Err faults.Prefix) fault = absurd fault
with_dash address text dash (Err (faults.Encoding encoding)) fault = absurd fault
with_dash address text dash (Err faults.Second) fault = absurd fault
with_dash address text dash (Err faults.HostBits) fault = absurd fault
with_dash address text dash (Err faults.Mask) fault = absurd fault
with_dash address text dash (Err faults.Address) fault = (inr (dash, fault), none)
  where
    none : (entry : Entry) → ¬ (NamesEntry text entry)
    none (Network n) (without, named) = without dash
    none (Range first last) (also, ends, range) = fault first last ends
with_dash address text dash (Err faults.Range) fault = ((dash, fault), none)
  where
    none : (entry : Entry) → ¬ (NamesEntry text entry)
    none (Network n) (without, named) = without dash
    none (Range first last) (also, ends, range) =
        let one = address _ first fault.0 ends.0 fault.2.0 in
        let other = address _ last fault.1 ends.1 fault.2.1 in
        fault.3 (subst (λ a. IsRange a fault.1) one (subst (λ a. IsRange first a) other range))

pub range_read : OneAddress → (text : List ℕ) (at : ℕ) → IsNext 45 text 0 at → (result : Result Entry EntryFault)
    → ReadsRange (take at text) (drop (at + 1) text) result → ReadsPlain text result
range_read address text at next result read =
    let place = position_or_len_is is_dash text at 0 (omega (arith, next.within))
    (λ k below. ne_eqb _ _ (next.between k (omega arith) below)) (λ within. eq-eqb _ _ next.there) in
    with_dash address text (omega (arith, next.within, place)) result
    (subst (λ n. ReadsRange (take n text) (drop (n + 1) text) result) (sym place) read)

nothing : (text : List ℕ) → ¬ (HasDash text) → ((n : IpNetwork) → ¬ (NamesIpNetwork text n)) → (entry : Entry)
    → ¬ (NamesEntry text entry)
nothing text dashless none (Network n) (without, named) = none n named
nothing text dashless none (Range first last) (dash, ends, range) = dashless dash

without_dash : (text : List ℕ) → ¬ (HasDash text) → (result : Result Entry EntryFault) → ReadsNetworkText text result
    → ReadsPlain text result
without_dash text dashless (Ok (Network n)) named = (dashless, named)
without_dash text dashless (Ok (Range first last)) named = absurd named
without_dash text dashless (Err faults.Format) (cause, none) = ((dashless, cause), nothing text dashless none)
without_dash text dashless (Err faults.Address) (cause, none) = (inl (dashless, cause), nothing text dashless none)
without_dash text dashless (Err faults.Prefix) (cause, none) = ((dashless, cause), nothing text dashless none)
without_dash text dashless (Err faults.Range) (cause, none) = absurd cause
without_dash text dashless (Err (faults.Encoding encoding)) (cause, none) = absurd cause
without_dash text dashless (Err faults.Second) (cause, none) = absurd cause
without_dash text dashless (Err faults.HostBits) (cause, none) = absurd cause
without_dash text dashless (Err faults.Mask) (cause, none) = absurd cause

pub network_read : (text : List ℕ) → IsAbsent 45 text 0 (length text) → (result : Result Entry EntryFault)
    → ReadsNetworkText text result → ReadsPlain text result
network_read text absent result read =
    let place = position_or_len_is is_dash text (length text) 0 (omega arith)
    (λ k below. ne_eqb _ _ (absent k (omega arith) below)) (λ past. absurd (omega (arith, past))) in
    without_dash text (λ dash. absurd (omega (arith, place, dash))) result read

-- a text of some length
pub not_empty : (text : List ℕ) → false ≡ (length text == 0) → text ≢ []
not_empty text some empty = absurd (some_none (some ∙ ap (λ t. length t == 0) empty))
  where
    some_none : ¬ (false ≡ true)
    some_none e = cc
