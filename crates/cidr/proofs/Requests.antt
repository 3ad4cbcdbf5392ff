-- What requests get, depending on the words of the line.
use Rattle.cidr.proofs.Words.{◌≡◌, ◌↔◌, ℕ, ◌≤◌, cond, List, Option, None, Some, inl, inr, refl, sym, ap, subst, ◌∙◌, le-leb, leb_tells, IsPrefixNumber, IsNoPrefixNumber, prefix_number_of, Filled, MayGet, Adds, RepliesTo, Request, Plain, route_number_of, within_32_bits, Routes}

-- ---- replies

pub plain_reply : (r : Routes) (old new : Filled) (text : List ℕ) → Adds old new text
    → RepliesTo r (Plain text) old new r
plain_reply r old new text adds = (text, inl (refl, refl), adds)

pub reply_with : (r s : Routes) (q : Request) (old new : Filled) (answer : List ℕ) → MayGet r q answer s
    → Adds old new answer → RepliesTo r q old new s
reply_with r s q old new answer gets adds = (answer, gets, adds)

-- a reply to a request is a reply to an equal request
pub replies_as : (r s : Routes) (p q : Request) (old new : Filled) → p ≡ q → RepliesTo r q old new s
    → RepliesTo r p old new s
replies_as r s p q old new same replies = subst (λ (x : Request). RepliesTo r x old new s) (sym same) replies

-- ---- numbers

-- what the library promises about numbers
abbrev pub NumberIsComputed : Type 0
NumberIsComputed = (text : List ℕ) (value : ℕ) → IsPrefixNumber text value ↔ (prefix_number_of text ≡ Some value)

not_within : (o : Option ℕ) → ((value : ℕ) → o ≡ Some value → ¬ (value ≤ 4294967295)) → within_32_bits o ≡ None
not_within None h = refl
not_within (Some value) h = elim (leb_tells value 4294967295) [
  | inl fits ↦ absurd (h value refl fits.1)
  | inr over ↦ ap (λ b. cond b (Some value) None) over.0
]

module _ (computed : NumberIsComputed) where
  pub number_is : (text : List ℕ) (value : ℕ) → IsPrefixNumber text value → value ≤ 4294967295
      → route_number_of text ≡ Some value
  unfolding route_number_of
  number_is text value names fits =
      ap within_32_bits ((computed text value).0 names)
      ∙ ap (λ b. cond b (Some value) None) (le-leb value 4294967295 fits)

  pub number_is_none : (text : List ℕ) → IsNoPrefixNumber text 4294967295 → route_number_of text ≡ None
  unfolding route_number_of
  number_is_none text none = not_within (prefix_number_of text) (λ value e. none value ((computed text value).1 e))
