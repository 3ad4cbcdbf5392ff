-- The texts of addresses and of networks hold no `-`, no blank, and no mark of a comment.
use Rattle.lists.proofs.Words.{◌≡◌, ◌≢◌, ◌||◌, ◌+◌, ◌-◌, ◌≤◌, ◌<◌, ◌⊎◌, ◌↔◌, inl, inr, ℕ, zero, suc, cond, not, Bool, true, false, List, [], ◌∷◌, ◌++◌, length, take, drop, get_or, refl, sym, ap, subst, ◌∙◌, arith, length-append, Option, None, Some, Ok, AllByRecursion, position_or_len, prefix_len, suffix_len, digits, AllDigits, ne_eqb, drop_all, take_all, suffix_len_is, digit_from_value, IsAddressByte, Digit, UpperHex, LowerHex, Dot, Colon, NamesV4, v4_of, NamesV6, v6_of, gap_below, Network, slash, NamesNetwork, Alone, Suffixed, IsPrefixNumber, IsV4Suffix, IsV6Suffix, NamesIpNetwork, IpNetwork, is_blank, is_gap, begins_comment, before_comment, comment_text, trimmed, without_end, without_front, is_dash, HasDash, NamesEntry, NamesNone, entry_text, ReadsEntry, NetworkTextsAreEntries}
use Rattle.ipnetwork.specs.declared.ip_network.IpNetwork.TheVariants as networks
use Rattle.lists.specs.declared.entry.Entry.TheVariants as entries

-- ---- bytes

-- neither blank nor comment
abbrev pub IsQuiet : ℕ → Type 0
IsQuiet byte = (is_blank byte ≡ false) × (begins_comment byte ≡ false)

-- nor `-`
abbrev pub IsPlain : ℕ → Type 0
IsPlain byte = (is_dash byte ≡ false) × IsQuiet byte

pub neither : (a b : Bool) → a ≡ false → b ≡ false → (a || b) ≡ false
neither false false x y = refl
neither false true x y = y
neither true b x y = absurd (one_zero x)
  where
    one_zero : ¬ (true ≡ false)
    one_zero e = cc

quiet : (x : ℕ) → 43 ≤ x → x ≢ 59 → IsQuiet x
quiet x high other = (
  neither _ _ (ne_eqb x 32 (λ e. omega arith)) (ne_eqb x 9 (λ e. omega arith)),
  neither _ _ (ne_eqb x 35 (λ e. omega arith)) (ne_eqb x 59 other),
)

plain : (x : ℕ) → 43 ≤ x → x ≢ 45 → x ≢ 59 → IsPlain x
plain x high dash other = (ne_eqb x 45 dash, quiet x high other)

of_address : (x : ℕ) → IsAddressByte x → IsPlain x
of_address x (Digit low high) = plain x (omega arith) (λ e. omega arith) (λ e. omega arith)
of_address x (UpperHex low high) = plain x (omega arith) (λ e. omega arith) (λ e. omega arith)
of_address x (LowerHex low high) = plain x (omega arith) (λ e. omega arith) (λ e. omega arith)
of_address x (Dot is) = plain x (omega arith) (λ e. omega arith) (λ e. omega arith)
of_address x (Colon is) = plain x (omega arith) (λ e. omega arith) (λ e. omega arith)

-- ---- texts

all_append : (P : ℕ → Type 0) (a b : List ℕ) → AllByRecursion P a → AllByRecursion P b → AllByRecursion P (a ++ b)
all_append P [] b x y = y
all_append P (v ∷ a) b x y = (x.0, all_append P a b x.1 y)

pub all_as : (P Q : ℕ → Type 0) → ((x : ℕ) → P x → Q x) → (text : List ℕ) → AllByRecursion P text → AllByRecursion Q text
all_as P Q f [] h = tt
all_as P Q f (x ∷ text) h = (f x h.0, all_as P Q f text h.1)

pub all_at : (P : ℕ → Type 0) (text : List ℕ) (i d : ℕ) → AllByRecursion P text → i < length text → P (get_or text i d)
all_at P [] i d h below = absurd (omega (arith, below))
all_at P (x ∷ text) zero d h below = h.0
all_at P (x ∷ text) (suc i) d h below = all_at P text i d h.1 (omega (arith, below))

digits_plain : (text : List ℕ) → AllDigits 10 text → AllByRecursion IsPlain text
digits_plain [] h = tt
digits_plain (x ∷ text) h =
    let within = digit_from_value x h.0 in
    (plain x (omega arith) (λ e. omega arith) (λ e. omega arith), digits_plain text h.1)

number_plain : (text : List ℕ) (value : ℕ) → IsPrefixNumber text value → AllByRecursion IsPlain text
number_plain text value h = go h.spelled
  where
    go : ((text ≡ h.digits) ⊎ (text ≡ 43 ∷ h.digits)) → AllByRecursion IsPlain text
    go (inl e) = subst (AllByRecursion IsPlain) (sym e) (digits_plain h.digits h.numeral.digits.1)
    go (inr e) = subst (AllByRecursion IsPlain) (sym e)
        (plain 43 (omega arith) (λ e. omega arith) (λ e. omega arith), digits_plain h.digits h.numeral.digits.1)

-- what the laws say of the texts of addresses: they hold bytes of addresses alone, and are not empty
pub record AreAddressTexts (Names : List ℕ → ℕ → Type 0) : Type 0 where
  pub bytes : (text : List ℕ) (address : ℕ) → Names text address → AllByRecursion IsAddressByte text
  pub some : (text : List ℕ) (address : ℕ) → Names text address → text ≢ []

address_plain : (Names : List ℕ → ℕ → Type 0) → AreAddressTexts Names → (text : List ℕ) (address : ℕ)
    → Names text address → AllByRecursion IsPlain text
address_plain Names texts text address named =
    all_as IsAddressByte IsPlain of_address text (texts.bytes text address named)

not_empty : (a : List ℕ) (x : ℕ) (b : List ℕ) → (a ++ x ∷ b) ≢ []
not_empty a x b e = absurd (omega (arith, ap length e, length-append a (x ∷ b)))

network_plain : (w : ℕ) (Names IsSuffix : List ℕ → ℕ → Type 0) → AreAddressTexts Names
    → ((text : List ℕ) (p : ℕ) → IsSuffix text p → AllByRecursion IsPlain text)
    → (text : List ℕ) (n : Network) → NamesNetwork w Names IsSuffix text n → AllByRecursion IsPlain text × (text ≢ [])
network_plain w Names IsSuffix texts suffixes text n (Alone named width) =
    (address_plain Names texts text n.address named, texts.some text n.address named)
network_plain w Names IsSuffix texts suffixes text n (Suffixed address suffix split named given) =
    let plain_slash = plain slash (omega arith) (λ e. omega arith) (λ e. omega arith) in
    let all = all_append IsPlain address (slash ∷ suffix) (address_plain Names texts address n.address named)
    (plain_slash, suffixes suffix n.prefix given) in
    (subst (AllByRecursion IsPlain) (sym split) all, λ empty. not_empty address slash suffix (sym split ∙ empty))

v4_suffix_plain : AreAddressTexts NamesV4 → (text : List ℕ) (p : ℕ) → IsV4Suffix text p → AllByRecursion IsPlain text
v4_suffix_plain texts text p (fits, inl number) = number_plain text p number
v4_suffix_plain texts text p (fits, inr mask) = address_plain NamesV4 texts text _ mask

v6_suffix_plain : (text : List ℕ) (p : ℕ) → IsV6Suffix text p → AllByRecursion IsPlain text
v6_suffix_plain text p (fits, number) = number_plain text p number

pub absent : (p : ℕ → Bool) (P : ℕ → Type 0) → ((x : ℕ) → P x → p x ≡ false) → (text : List ℕ) → AllByRecursion P text
    → position_or_len p text ≡ length text
absent p P fails [] h = refl
absent p P fails (x ∷ text) h =
    ap (λ v. cond (not v) (1 + position_or_len p text) 0) (fails x h.0) ∙ (omega (arith, absent p P fails text h.1))

no_front : (text : List ℕ) → AllByRecursion IsQuiet text → prefix_len is_blank text ≡ 0
no_front [] h = refl
no_front (x ∷ text) h = ap (λ v. cond v (1 + prefix_len is_blank text) 0) h.0.0

no_end : (text : List ℕ) → AllByRecursion IsQuiet text → suffix_len is_blank text ≡ 0
no_end text h =
    let last = suffix_len_is is_blank text (length text) 0 (omega arith)
    (λ k above below. absurd (omega (arith, above, below)))
    (λ some. (all_at IsQuiet text (length text - 1) 0 h (omega (arith, some))).0) in
    omega (arith, last)

trimmed_is : (text : List ℕ) → AllByRecursion IsQuiet text → trimmed text ≡ text
trimmed_is text h =
    ap (without_end is_blank) (ap (λ n. drop n text) (no_front text h))
    ∙ ap (λ n. take (length text - n) text) (no_end text h)
    ∙ take_all (length text - 0) text (omega arith)

entry_text_is : (text : List ℕ) → AllByRecursion IsQuiet text → entry_text text ≡ text
entry_text_is text h =
    ap trimmed (ap (λ n. take n text) (absent begins_comment IsQuiet (λ x q. q.1) text h)
    ∙ take_all (length text) text (omega arith))
    ∙ trimmed_is text h

plain_is_quiet : (text : List ℕ) → AllByRecursion IsPlain text → AllByRecursion IsQuiet text
plain_is_quiet text all = all_as IsPlain IsQuiet (λ x h. h.1) text all

no_comment : (text : List ℕ) → AllByRecursion IsQuiet text → comment_text text ≡ []
no_comment text h =
    ap (λ t. trimmed (before_comment (without_front is_gap t)))
    (ap (λ n. drop n text) (absent begins_comment IsQuiet (λ x q. q.1) text h)
    ∙ drop_all (length text) text (omega arith))

-- ---- the laws

module _ (v4 : AreAddressTexts NamesV4) (v6 : AreAddressTexts NamesV6) where
  plain_text : (text : List ℕ) (n : IpNetwork) → NamesIpNetwork text n → AllByRecursion IsPlain text × (text ≢ [])
  plain_text text (networks.V4 n) named = network_plain 32 NamesV4 IsV4Suffix v4 (v4_suffix_plain v4) text n named
  plain_text text (networks.V6 n) named = network_plain 128 NamesV6 IsV6Suffix v6 v6_suffix_plain text n named

  nothing_named : NamesNone []
  nothing_named (entries.Network n) h = (plain_text [] n h.1).1 refl
  nothing_named (entries.Range first last) h = omega (arith, h.0)

  pub network_texts : NetworkTextsAreEntries
  network_texts text n named =
      let plain = plain_text text n named in
      let quiet = plain_is_quiet text plain.0 in
      let no_dash : ¬ (HasDash text) =
      λ dash. absurd (omega (arith, dash, absent is_dash IsPlain (λ x h. h.0) text plain.0)) in
      let named : (text ≢ []) × NamesEntry text (entries.Network n) = (plain.1, (no_dash, named)) in
      let entry = subst (λ t. (t ≢ []) × NamesEntry t (entries.Network n)) (sym (entry_text_is text quiet)) named in
      (entry.0, entry.1, subst NamesNone (sym (no_comment text quiet)) nothing_named)

-- a text that a computed reading takes is not empty, where that takes no empty text
none_empty : (Names : List ℕ → ℕ → Type 0) (value : List ℕ → Option ℕ)
    → ((text : List ℕ) (address : ℕ) → Names text address → value text ≡ Some address) → value [] ≡ None
    → (text : List ℕ) (address : ℕ) → Names text address → text ≢ []
none_empty Names value computed none text address named empty =
    absurd (none_some (sym none ∙ ap value (sym empty) ∙ computed text address named))
  where
    none_some : {a : ℕ} → ¬ (None ≡ Some a)
    none_some e = cc

pub v4_texts : ((text : List ℕ) (address : ℕ) → NamesV4 text address → AllByRecursion IsAddressByte text)
    → ((text : List ℕ) (address : ℕ) → NamesV4 text address ↔ (v4_of text ≡ Some address)) → AreAddressTexts NamesV4
unfolding digits
v4_texts bytes computed =
    record { bytes = bytes; some = none_empty NamesV4 v4_of (λ text address. (computed text address).0) refl }

pub v6_texts : ((text : List ℕ) (address : ℕ) → NamesV6 text address → AllByRecursion IsAddressByte text)
    → ((text : List ℕ) (address : ℕ) → NamesV6 text address ↔ (v6_of text ≡ Some address)) → AreAddressTexts NamesV6
unfolding digits v6_of gap_below
v6_texts bytes computed =
    record { bytes = bytes; some = none_empty NamesV6 v6_of (λ text address. (computed text address).0) refl }
