-- What two words, an IPv4 address and its mask or wildcard, say can be computed.
use Rattle.cidr_merge.proofs.Words.{◌≡◌, ◌≢◌, ◌↔◌, ◌∙◌, ◌+◌, ◌-◌, ◌*◌, ◌^◌, ◌<◌, ◌≤◌, ◌==◌, ◌||◌, ◌⊎◌, ℕ, zero, suc, Bool, true, false, not, cond, List, [], ◌∷◌, ◌++◌, length, take, drop, get_or, get_or-take, refl, sym, ap, subst, arith, inl, inr, nat_lt, if◌then◌else◌, Option, None, Some, Result, Ok, Err, bytes_eq, ltb-true, eqb-true, ne_eqb, cases_lt, drop-length, length-take-le, pow_pos, pow_mono, map, position_or_len, prefix_len, suffix_len, prefix_len_passes, reverse, get_or-reverse, AllByRecursion, count_leading_zeros, digits, digits_value, number_from_digits, slice_split, IsAddressByte, Digit, UpperHex, LowerHex, Dot, Colon, dot, v4_of, canonical_v4, NamesV4, NamesV6, Network, Alone, Suffixed, NamesNetwork, NamesIpNetwork, slash, mask_of, prefix_of_mask, MaskIsComputed, IpNetwork, V4, V6, HasDash, NamesEntry, is_dash, is_blank, trimmed, without_front, Entry, EntryFault, Range, IsBoth, IsMask, IsWildcard, IsUnclear, NamesMasked, NamesTwo, SaysLength, after_word, first_word, is_word_byte, entry_of_two, is_both, length_by, length_of_two, masked_entry, network_by, network_of_two}
use Rattle.cidr_merge.proofs.Readings.{not_true, true_false}
use Rattle.ipnetwork.specs.declared.ip_network.IpNetwork.TheVariants as networks
use Rattle.lists.specs.declared.entry.Entry.TheVariants as entries
use Rattle.lists.specs.declared.entry.EntryFault.TheVariants as causes

-- ---- masks and wildcards

neither : (a b : Bool) → a ≡ false → b ≡ false → (a || b) ≡ false
neither false b x y = y
neither true b x y = absurd (true_false x)

some_is : (a b : ℕ) → ◌≡◌ {A = Option ℕ} (Some a) (Some b) → a ≡ b
some_is a b e = cc

both_is : (number : ℕ) → IsBoth number → is_both number ≡ true
both_is number (inl e) = subst (λ n. is_both n ≡ true) (sym e) refl
both_is number (inr e) = subst (λ n. is_both n ≡ true) (sym e) refl

both_of : (number : ℕ) → is_both number ≡ true → IsBoth number
both_of number e = by (number == 0) (number == 2 ^ 32 - 1) refl refl where
  by : (a b : Bool) → (number == 0) ≡ a → (number == 2 ^ 32 - 1) ≡ b → IsBoth number
  by true b x y = inl (eqb-true number 0 x)
  by false true x y = inr (eqb-true number (2 ^ 32 - 1) y)
  by false false x y = absurd (true_false (sym e ∙ neither (number == 0) (number == 2 ^ 32 - 1) x y))

not_both : (number : ℕ) → ¬ (IsBoth number) → is_both number ≡ false
not_both number apart = not_true (is_both number) (λ e. apart (both_of number e))

-- the ones before the first zero of a number of 32 bits
abbrev ones : ℕ → ℕ
ones number = count_leading_zeros 32 (2 ^ 32 - 1 - number)

mask_by : (number p : ℕ) → prefix_of_mask 32 number ≡ Some p → number ≡ mask_of 32 p
mask_by number p is = by (number == mask_of 32 (ones number)) refl where
  by : (same : Bool) → (number == mask_of 32 (ones number)) ≡ same → number ≡ mask_of 32 p
  by true same =
      let said : ◌≡◌ {A = Option ℕ} (Some (ones number)) (Some p) =
      sym (ap (λ (b : Bool). if b then Some (ones number) else None) same) ∙ is in
      eqb-true number (mask_of 32 (ones number)) same ∙ ap (mask_of 32) (some_is (ones number) p said)
  by false other = absurd (let q = sym (ap (λ (b : Bool). if b then Some (ones number) else None) other) ∙ is in cc)

-- a number that is a mask and a wildcard is 0.0.0.0 or 255.255.255.255: of other masks the last bit is 0, and of other
-- wildcards it is 1
not_two : (i j number : ℕ) → number ≡ 2 ^ i - 1 → number ≡ 2 ^ 32 - 2 ^ j → j ≤ 32 → ¬ (IsBoth number) → ⊥
not_two zero j number wildcard mask few apart = apart (inl wildcard)
not_two (suc i) zero number wildcard mask few apart = apart (inr mask)
not_two (suc i) (suc j) number wildcard mask few apart =
    let some = pow_pos i in
    let least = pow_pos j in
    let most : 2 ^ suc j ≤ 2 ^ 32 = pow_mono {j = 32} few in
    absurd (omega (arith, wildcard, mask, some, least, most))

module _ (masks : MaskIsComputed) where
  length_of_mask : (number p : ℕ) → IsMask number p → length_by number ≡ Some p
  length_of_mask number p (fits, e) =
      ap (λ o. length_of_two o (prefix_of_mask 32 (2 ^ 32 - 1 - number))) (ap (prefix_of_mask 32) e ∙ masks 32 p fits)

  no_mask : (number p : ℕ) → ¬ (IsBoth number) → number ≡ 2 ^ (32 - p) - 1 → prefix_of_mask 32 number ≡ None
  no_mask number p apart wildcard = by (prefix_of_mask 32 number) refl where
    by : (o : Option ℕ) → prefix_of_mask 32 number ≡ o → prefix_of_mask 32 number ≡ None
    by None is = is
    by (Some q) is = absurd (not_two (32 - p) (32 - q) number wildcard (mask_by number q is) (omega arith) apart)

  length_of_wildcard : (number p : ℕ) → ¬ (IsBoth number) → IsWildcard number p → length_by number ≡ Some p
  length_of_wildcard number p apart (fits, e) =
      let some = pow_pos (32 - p) in
      let most : 2 ^ (32 - p) ≤ 2 ^ 32 = pow_mono {j = 32} (omega arith) in
      let turned : 2 ^ 32 - 1 - number ≡ mask_of 32 p = omega (arith, e, some, most) in
      ap (λ o. length_of_two o (prefix_of_mask 32 (2 ^ 32 - 1 - number))) (no_mask number p apart e)
      ∙ ap (prefix_of_mask 32) turned ∙ masks 32 p fits

  length_is : (number p : ℕ) → ¬ (IsBoth number) → IsMask number p ⊎ IsWildcard number p → length_by number ≡ Some p
  length_is number p apart (inl mask) = length_of_mask number p mask
  length_is number p apart (inr wildcard) = length_of_wildcard number p apart wildcard

  -- and what is computed is a mask or a wildcard
  mask_says : (number p : ℕ) → ¬ (IsBoth number) → number ≡ mask_of 32 p → IsMask number p
  mask_says number p apart is = (fits (32 - p) refl, is) where
    fits : (j : ℕ) → 32 - p ≡ j → p ≤ 32
    fits zero e = absurd (apart (inr (is ∙ ap (λ j. 2 ^ 32 - 2 ^ j) e)))
    fits (suc j) e = omega (arith, e)

  wildcard_says : (number p : ℕ) → number < 2 ^ 32 → ¬ (IsBoth number) → 2 ^ 32 - 1 - number ≡ mask_of 32 p
      → IsWildcard number p
  wildcard_says number p below apart is =
      let some = pow_pos (32 - p) in
      let most : 2 ^ (32 - p) ≤ 2 ^ 32 = pow_mono {j = 32} (omega arith) in
      (fits (32 - p) refl, omega (arith, below, is, some, most)) where
        fits : (j : ℕ) → 32 - p ≡ j → p ≤ 32
        fits zero e = absurd (apart (inl (omega (arith, below, is ∙ ap (λ j. 2 ^ 32 - 2 ^ j) e))))
        fits (suc j) e = omega (arith, e)

  length_says : (number p : ℕ) → number < 2 ^ 32 → ¬ (IsBoth number) → length_by number ≡ Some p
      → IsMask number p ⊎ IsWildcard number p
  length_says number p below apart is = by (prefix_of_mask 32 number) refl where
    by : (o : Option ℕ) → prefix_of_mask 32 number ≡ o → IsMask number p ⊎ IsWildcard number p
    by (Some q) e =
        let same = some_is q p (sym (ap (λ o. length_of_two o (prefix_of_mask 32 (2 ^ 32 - 1 - number))) e) ∙ is) in
        inl (mask_says number p apart (mask_by number q e ∙ ap (mask_of 32) same))
    by None e =
        let turned = sym (ap (λ o. length_of_two o (prefix_of_mask 32 (2 ^ 32 - 1 - number))) e) ∙ is in
        inr (wildcard_says number p below apart (mask_by (2 ^ 32 - 1 - number) p turned))

  -- ---- an address and a number

  abbrev by_length : ℕ → ℕ → Bool → Result (Option Entry) EntryFault
  by_length address number both =
      if both then (if address == 0 then Err causes.Mask else network_by address (Some 32))
      else network_by address (length_by number)

  two_is : (address number p : ℕ) → SaysLength address number p
      → network_of_two address number ≡ Ok (Some (entries.Network (networks.V4 (record { address = address; prefix = p }))))
  two_is address number p (inl (apart, says)) =
      ap (by_length address number) (not_both number apart) ∙ ap (network_by address) (length_is number p apart says)
  two_is address number p (inr (both, some, e)) =
      ap (by_length address number) (both_is number both)
      ∙ ap (λ (b : Bool). if b then Err causes.Mask else network_by address (Some 32)) (ne_eqb address 0 some)
      ∙ ap (λ p. network_by address (Some p)) (sym e)

  unclear_two : (number : ℕ) → IsBoth number → network_of_two 0 number ≡ Err causes.Mask
  unclear_two number both = ap (by_length 0 number) (both_is number both)

  none_of_two : (address number : ℕ) → number < 2 ^ 32 → ((p : ℕ) → ¬ (SaysLength address number p))
      → ¬ ((address ≡ 0) × IsBoth number) → network_of_two address number ≡ Ok None
  none_of_two address number below none clear = by (is_both number) refl where
    zero_or_not : is_both number ≡ true → (zero : Bool) → (address == 0) ≡ zero → network_of_two address number ≡ Ok None
    zero_or_not is true e = absurd (clear (eqb-true address 0 e, both_of number is))
    zero_or_not is false e =
        absurd (none 32 (inr (both_of number is, (λ z. true_false (sym (ap (λ a. a == 0) z) ∙ e)), refl)))

    by : (both : Bool) → is_both number ≡ both → network_of_two address number ≡ Ok None
    by true is = zero_or_not is (address == 0) refl
    by false is = among (length_by number) refl where
      apart : ¬ (IsBoth number)
      apart both = true_false (sym (both_is number both) ∙ is)

      among : (o : Option ℕ) → length_by number ≡ o → network_of_two address number ≡ Ok None
      among None e = ap (by_length address number) is ∙ ap (network_by address) e
      among (Some p) e = absurd (none p (inl (apart, length_says number p below apart e)))

-- ---- bytes

no_slash : ¬ (IsAddressByte slash)
no_slash (Digit low high) = absurd (omega (arith, low))
no_slash (UpperHex low high) = absurd (omega (arith, low))
no_slash (LowerHex low high) = absurd (omega (arith, low))
no_slash (Dot is) = absurd (omega (arith, is))
no_slash (Colon is) = absurd (omega (arith, is))

-- a byte of an address is above a `-`, and so no blank
above : (x : ℕ) → IsAddressByte x → 46 ≤ x
above x (Digit low high) = omega arith
above x (UpperHex low high) = omega arith
above x (LowerHex low high) = omega arith
above x (Dot is) = omega arith
above x (Colon is) = omega arith

no_blank : (x : ℕ) → IsAddressByte x → is_blank x ≡ false
no_blank x h =
    let high = above x h in
    neither (x == 32) (x == 9) (ne_eqb x 32 (λ e. omega (arith, e, high))) (ne_eqb x 9 (λ e. omega (arith, e, high)))

abbrev IsNoDash : ℕ → Type 0
IsNoDash x = is_dash x ≡ false

no_dash : (x : ℕ) → IsAddressByte x → IsNoDash x
no_dash x h = let high = above x h in ne_eqb x 45 (λ e. omega (arith, e, high))

blank_is_no_dash : (x : ℕ) → is_blank x ≡ true → IsNoDash x
blank_is_no_dash x blank =
    not_true (is_dash x) (λ e. true_false (sym blank ∙ ap is_blank (eqb-true x 45 e)))

-- ---- texts

all_as : (P Q : ℕ → Type 0) → ((x : ℕ) → P x → Q x) → (text : List ℕ) → AllByRecursion P text → AllByRecursion Q text
all_as P Q f [] h = tt
all_as P Q f (x ∷ text) h = (f x h.0, all_as P Q f text h.1)

all_at : (P : ℕ → Type 0) (text : List ℕ) (i d : ℕ) → AllByRecursion P text → i < length text → P (get_or text i d)
all_at P [] i d h below = absurd (omega (arith, below))
all_at P (x ∷ text) zero d h below = h.0
all_at P (x ∷ text) (suc i) d h below = all_at P text i d h.1 (omega (arith, below))

all_by : (P : ℕ → Type 0) (text : List ℕ) → ((i d : ℕ) → i < length text → P (get_or text i d)) → AllByRecursion P text
all_by P [] f = tt
all_by P (x ∷ text) f = (f 0 0 (omega arith), all_by P text (λ i d below. f (suc i) d (omega (arith, below))))

one_more : (n : ℕ) → 1 + n ≡ suc n
one_more n = omega arith

-- all bytes of a text are so, if those of its first word and of what follows that are so
all_of_parts : (P : ℕ → Type 0) (n : ℕ) (text : List ℕ) → AllByRecursion P (take n text) → AllByRecursion P (drop n text)
    → AllByRecursion P text
all_of_parts P zero text before after = after
all_of_parts P (suc n) [] before after = tt
all_of_parts P (suc n) (x ∷ text) before after = (before.0, all_of_parts P n text before.1 after)

-- ---- the blanks around a text

module _ (P : ℕ → Type 0) (blank : (x : ℕ) → is_blank x ≡ true → P x) where
  with_front : (text : List ℕ) → AllByRecursion P (without_front is_blank text) → AllByRecursion P text
  with_front [] h = tt
  with_front (x ∷ text) h = by (is_blank x) refl h (with_front text) where
    by : (b : Bool) → is_blank x ≡ b → AllByRecursion P (drop (cond b (1 + prefix_len is_blank text) 0) (x ∷ text))
        → (AllByRecursion P (without_front is_blank text) → AllByRecursion P text) → AllByRecursion P (x ∷ text)
    by true is h rest =
        (blank x is, rest (subst (λ n. AllByRecursion P (drop n (x ∷ text))) (one_more (prefix_len is_blank text)) h))
    by false is h rest = h

  -- a byte at the end is a blank, and any other is in what is left
  with_end : (text : List ℕ) → AllByRecursion P (take (length text - suffix_len is_blank text) text) → AllByRecursion P text
  with_end text h = all_by P text (λ i d below. at i d below (cases_lt i (length text - suffix_len is_blank text)))
    where
      inner : (i d : ℕ) → i < length text - suffix_len is_blank text → P (get_or text i d)
      inner i d early =
          let kept = length text - suffix_len is_blank text in
          let long = length-take-le kept text (omega arith) in
          subst P (get_or-take kept text i d early)
          (all_at P (take kept text) i d h (omega (arith, early, long)))

      outer : (i d : ℕ) → i < length text → length text - suffix_len is_blank text ≤ i → P (get_or text i d)
      outer i d below late =
          let turned = length text - 1 - i in
          let same = get_or-reverse text turned d (omega (arith, below)) in
          let place : length text - 1 - turned ≡ i = omega (arith, below) in
          let passes = prefix_len_passes is_blank (reverse text) turned d (omega (arith, below, late)) in
          blank (get_or text i d) (ap (λ k. is_blank (get_or text k d)) (sym place) ∙ ap is_blank (sym same) ∙ passes)

      at : (i d : ℕ) → i < length text
          → (i < length text - suffix_len is_blank text) ⊎ (length text - suffix_len is_blank text ≤ i) → P (get_or text i d)
      at i d below (inl early) = inner i d early
      at i d below (inr late) = outer i d below late

  with_blanks : (text : List ℕ) → AllByRecursion P (trimmed text) → AllByRecursion P text
  with_blanks text h = with_front text (with_end (without_front is_blank text) h)

-- ---- two words are no text of one entry

absent : (text : List ℕ) → AllByRecursion IsNoDash text → ¬ (HasDash text)
absent text all dash = absurd (omega (arith, dash, none text all)) where
  none : (text : List ℕ) → AllByRecursion IsNoDash text → position_or_len is_dash text ≡ length text
  none [] h = refl
  none (x ∷ text) h =
      ap (λ v. cond (not v) (1 + position_or_len is_dash text) 0) h.0 ∙ (omega (arith, none text h.1))

-- what the laws say of the texts of addresses
pub record AreAddressTexts : Type 0 where
  pub v4 : (text : List ℕ) (address : ℕ) → NamesV4 text address ↔ (v4_of text ≡ Some address)
  pub v4_bytes : (text : List ℕ) (address : ℕ) → NamesV4 text address → AllByRecursion IsAddressByte text
  pub v6_bytes : (text : List ℕ) (address : ℕ) → NamesV6 text address → AllByRecursion IsAddressByte text

no_v4 : v4_of [] ≡ None
unfolding digits
no_v4 = refl

some_or_none : (a : ℕ) → ¬ (◌≡◌ {A = Option ℕ} (Some a) None)
some_or_none a e = cc

module _ (texts : AreAddressTexts) where
  -- one word alone
  whole_word : (text : List ℕ) → AllByRecursion IsAddressByte text → prefix_len is_word_byte text ≡ length text
  whole_word [] h = refl
  whole_word (x ∷ text) h =
      ap (λ v. cond (not v) (1 + prefix_len is_word_byte text) 0) (no_blank x h.0)
      ∙ (omega (arith, whole_word text h.1))

  one_alone : (text : List ℕ) (number : ℕ) → AllByRecursion IsAddressByte text → ¬ (NamesV4 (after_word text) number)
  one_alone text number all named =
      let none : after_word text ≡ [] = ap (λ n. trimmed (drop n text)) (whole_word text all)
      ∙ ap trimmed (drop-length text) in
      some_or_none number (sym ((texts.v4 (after_word text) number).0 named) ∙ ap v4_of none ∙ no_v4)

  -- a slash after an address is in the first word
  word_more : (x : ℕ) (text : List ℕ) → is_blank x ≡ false → first_word (x ∷ text) ≡ x ∷ first_word text
  word_more x text word =
      ap (λ v. take (cond (not v) (1 + prefix_len is_word_byte text) 0) (x ∷ text)) word
      ∙ ap (λ n. take n (x ∷ text)) (one_more (prefix_len is_word_byte text))

  slash_within : (address suffix : List ℕ) → AllByRecursion IsAddressByte address
      → ¬ (AllByRecursion IsAddressByte (first_word (address ++ slash ∷ suffix)))
  slash_within [] suffix all word =
      no_slash (subst (AllByRecursion IsAddressByte) (word_more slash suffix refl) word).0
  slash_within (x ∷ address) suffix all word =
      slash_within address suffix all.1
      (subst (AllByRecursion IsAddressByte) (word_more x (address ++ slash ∷ suffix) (no_blank x all.0)) word).1

  no_network : (w : ℕ) (Names IsSuffix : List ℕ → ℕ → Type 0)
      → ((text : List ℕ) (address : ℕ) → Names text address → AllByRecursion IsAddressByte text)
      → (text : List ℕ) (n : Network) → NamesNetwork w Names IsSuffix text n → (address number : ℕ)
      → ¬ (NamesTwo text address number)
  no_network w Names IsSuffix bytes text n (Alone named width) address number two =
      one_alone text number (bytes text n.address named) two.1
  no_network w Names IsSuffix bytes text n (Suffixed first suffix split named given) address number two =
      slash_within first suffix (bytes first n.address named)
      (subst (λ t. AllByRecursion IsAddressByte (first_word t)) split (texts.v4_bytes (first_word text) address two.0))

  no_range : (text : List ℕ) (address number : ℕ) → NamesTwo text address number → ¬ (HasDash text)
  no_range text address number two =
      let first = all_as IsAddressByte IsNoDash no_dash (first_word text) (texts.v4_bytes (first_word text) address two.0) in
      let second = all_as IsAddressByte IsNoDash no_dash (after_word text) (texts.v4_bytes (after_word text) number two.1) in
      let after = with_blanks IsNoDash blank_is_no_dash (drop (prefix_len is_word_byte text) text) second in
      absent text (all_of_parts IsNoDash (prefix_len is_word_byte text) text first after)

  not_one : (text : List ℕ) (entry : Entry) → NamesEntry text entry → (address number : ℕ) → ¬ (NamesTwo text address number)
  not_one text (entries.Network (networks.V4 n)) (dash, named) address number two =
      no_network 32 NamesV4 _ texts.v4_bytes text n named address number two
  not_one text (entries.Network (networks.V6 n)) (dash, named) address number two =
      no_network 128 NamesV6 _ texts.v6_bytes text n named address number two
  not_one text (entries.Range first last) (dash, ends, range) address number two = no_range text address number two dash

  -- ---- what two words say

  abbrev counted : List ℕ → ℕ
  counted text = number_from_digits 256 (map (digits_value 10) (slice_split (λ byte. byte == dot) text))

  v4_below : (text : List ℕ) (address : ℕ) → v4_of text ≡ Some address → address < 2 ^ 32
  v4_below text address is = by (nat_lt (counted text) (2 ^ 32)) (bytes_eq text (canonical_v4 (counted text))) refl refl where
    chosen : Bool → Bool → Option ℕ
    chosen fits same = if fits then (if same then Some (counted text) else None) else None

    by : (fits same : Bool) → nat_lt (counted text) (2 ^ 32) ≡ fits → bytes_eq text (canonical_v4 (counted text)) ≡ same
        → address < 2 ^ 32
    by false same x y =
        absurd (some_or_none address (sym is ∙ ap (λ f. chosen f (bytes_eq text (canonical_v4 (counted text)))) x))
    by true false x y = absurd (some_or_none address (sym is
        ∙ ap (λ f. chosen f (bytes_eq text (canonical_v4 (counted text)))) x ∙ ap (chosen true) y))
    by true true x y =
        let said = sym (ap (λ f. chosen f (bytes_eq text (canonical_v4 (counted text)))) x ∙ ap (chosen true) y) ∙ is in
        subst (λ a. a < 2 ^ 32) (some_is (counted text) address said) (ltb-true (counted text) (2 ^ 32) x)

  module _ (masks : MaskIsComputed) where
    words_are : (text : List ℕ) (address number : ℕ) → NamesTwo text address number
        → masked_entry text ≡ network_of_two address number
    words_are text address number two =
        ap (λ o. entry_of_two o (v4_of (after_word text))) ((texts.v4 (first_word text) address).0 two.0)
        ∙ ap (entry_of_two (Some address)) ((texts.v4 (after_word text) number).0 two.1)

    pub masked_is : (text : List ℕ) (entry : Entry) → NamesMasked text entry → masked_entry text ≡ Ok (Some entry)
    masked_is text (entries.Network (networks.V4 n)) (number, two, says) =
        words_are text n.address number two ∙ two_is masks n.address number n.prefix says
    masked_is text (entries.Network (networks.V6 n)) h = absurd h
    masked_is text (entries.Range first last) h = absurd h

    pub unclear_is : (text : List ℕ) → IsUnclear text → masked_entry text ≡ Err causes.Mask
    unclear_is text (number, two, both) = words_are text 0 number two ∙ unclear_two masks number both

    pub not_masked : (text : List ℕ) → ((entry : Entry) → ¬ (NamesMasked text entry)) → ¬ (IsUnclear text)
        → masked_entry text ≡ Ok None
    not_masked text none clear = by (v4_of (first_word text)) (v4_of (after_word text)) refl refl where
      by : (a b : Option ℕ) → v4_of (first_word text) ≡ a → v4_of (after_word text) ≡ b → masked_entry text ≡ Ok None
      by None b x y = ap (λ o. entry_of_two o (v4_of (after_word text))) x
      by (Some address) None x y =
          ap (λ o. entry_of_two o (v4_of (after_word text))) x ∙ ap (entry_of_two (Some address)) y
      by (Some address) (Some number) x y =
          let two : NamesTwo text address number =
          ((texts.v4 (first_word text) address).1 x, (texts.v4 (after_word text) number).1 y) in
          words_are text address number two
          ∙ none_of_two masks address number (v4_below (after_word text) number y)
          (λ p says. none (entries.Network (networks.V4 (record { address = address; prefix = p }))) (number, two, says))
          (λ h. clear (number, (subst (NamesV4 (first_word text)) h.0 two.0, two.1), h.1))

    pub one_word : (text : List ℕ) (entry : Entry) → NamesEntry text entry → masked_entry text ≡ Ok None
    one_word text entry named = not_masked text masked (λ h. not_one text entry named 0 h.0 h.1) where
      masked : (e : Entry) → ¬ (NamesMasked text e)
      masked (entries.Network (networks.V4 n)) h = not_one text entry named n.address h.0 h.1
      masked (entries.Network (networks.V6 n)) h = absurd h
      masked (entries.Range first last) h = absurd h
