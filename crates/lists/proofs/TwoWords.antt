-- Two words, an address and its mask or wildcard, and how they are read.
use Rattle.lists.proofs.Words.{◌≡◌, ◌≢◌, ◌∙◌, ◌-◌, ◌^◌, ◌≤◌, ◌⊎◌, ℕ, Bool, true, false, inl, inr, List, [], refl, sym, ap, subst, arith, pow_mono, pow_pos, Option, None, Some, Result, Ok, Err, NamesV4, V4, V6, Entry, EntryFault, Range, IsBoth, IsMask, IsUnclear, IsWildcard, NamesMasked, IsNotMasked, SaysLength, SaysNone, SaysSome, after_word, first_word}
use Rattle.ipnetwork.specs.declared.ip_network.IpNetwork.TheVariants as networks
use Rattle.lists.specs.declared.entry.Entry.TheVariants.{Network}

abbrev pub OneV4 : Type 0
OneV4 = (text : List ℕ) (a b : ℕ) → NamesV4 text a → NamesV4 text b → a ≡ b

-- the second word is no address
pub no_number : (text : List ℕ) → ((m : ℕ) → ¬ (NamesV4 (after_word text) m)) → IsNotMasked text
no_number text none = (named, λ h. none h.0 h.1.1)
  where
    named : (entry : Entry) → ¬ (NamesMasked text entry)
    named (Network (networks.V4 n)) h = none h.0 h.1.1
    named (Network (networks.V6 n)) h = absurd h
    named (Range first last) h = absurd h

-- the first word is no address
pub no_address : (text : List ℕ) → ((a : ℕ) → ¬ (NamesV4 (first_word text) a)) → IsNotMasked text
no_address text none = (named, λ h. none 0 h.1.0)
  where
    named : (entry : Entry) → ¬ (NamesMasked text entry)
    named (Network (networks.V4 n)) h = none n.address h.1.0
    named (Network (networks.V6 n)) h = absurd h
    named (Range first last) h = absurd h

-- the second is neither a mask nor a wildcard
pub no_length : OneV4 → (text : List ℕ) (address number : ℕ) → NamesV4 (first_word text) address
    → NamesV4 (after_word text) number → ((p : ℕ) → ¬ (SaysLength address number p)) → ¬ (IsBoth number)
    → IsNotMasked text
no_length one text address number first second none apart = (named, λ h. apart (subst IsBoth (one _ h.0 number h.1.1 second) h.2))
  where
    named : (entry : Entry) → ¬ (NamesMasked text entry)
    named (Network (networks.V4 n)) h =
        let same = one _ n.address address h.1.0 first in
        let also = one _ h.0 number h.1.1 second in
        none n.prefix (subst (λ a. SaysLength a number n.prefix) same
        (subst (λ m. SaysLength n.address m n.prefix) also h.2))
    named (Network (networks.V6 n)) h = absurd h
    named (Range first last) h = absurd h

-- the complement of a mask is a wildcard, and so the other way round
pub mask_turned : (number p : ℕ) → number ≤ 2 ^ 32 - 1 → IsMask (2 ^ 32 - 1 - number) p → IsWildcard number p
mask_turned number p fits h =
    let some = pow_pos (32 - p) in
    let most : 2 ^ (32 - p) ≤ 2 ^ 32 = pow_mono {j = 32} (omega arith) in
    (h.0, omega (arith, h.1, fits, some, most))

pub wildcard_turned : (number p : ℕ) → number ≤ 2 ^ 32 - 1 → IsWildcard number p → IsMask (2 ^ 32 - 1 - number) p
wildcard_turned number p fits h =
    let some = pow_pos (32 - p) in
    let most : 2 ^ (32 - p) ≤ 2 ^ 32 = pow_mono {j = 32} (omega arith) in
    (h.0, omega (arith, h.1, fits, some, most))
