-- Masks, wildcards and ends of lists at which a misreading of their definitions would show.
use Rattle.lists.proofs.Words.{◌≡◌, ◌∙◌, ◌≤◌, ℕ, List, [], ◌∷◌, ◌++◌, refl, ap, inl, inr, arith, codes, length, length-append, EndsWithFeed, IsBoth, IsMask, IsWildcard, SaysLength, after_word, first_word}

-- the blanks between two words are spaces and tabs, and those after the second belong to neither
pub two_words : (first_word (codes "10.0.0.0 \t255.0.0.0\t ") ≡ codes "10.0.0.0")
    × (after_word (codes "10.0.0.0 \t255.0.0.0\t ") ≡ codes "255.0.0.0")
two_words = (refl, refl)

-- of one word nothing follows, and of three the last two do
pub other_words : (after_word (codes "10.0.0.0") ≡ []) × (first_word (codes "10.0.0.0") ≡ codes "10.0.0.0")
    × (after_word (codes "a b c") ≡ codes "b c")
other_words = (refl, refl, refl)

-- 255.0.0.0 and 0.255.255.255 are the mask and the wildcard of 8, 255.255.255.254 and 0.0.0.1 those of 31
pub masks_and_wildcards : IsMask 0xff000000 8 × IsWildcard 0x00ffffff 8 × IsMask 0xfffffffe 31 × IsWildcard 1 31
masks_and_wildcards =
    ((omega arith, refl), (omega arith, refl), (omega arith, refl), (omega arith, refl))

-- 0.0.0.0 and 255.255.255.255 are both
pub both : IsMask 0 0 × IsWildcard 0 32 × IsMask 0xffffffff 32 × IsWildcard 0xffffffff 0 × IsBoth 0 × IsBoth 0xffffffff
both = (
  (omega arith, refl),
  (omega arith, refl),
  (omega arith, refl),
  (omega arith, refl),
  inl refl,
  inr refl,
)

-- after 10.0.0.5 they name this address alone, and after 0.0.0.0 nothing
pub one_address : SaysLength 0x0a000005 0 32 × SaysLength 0x0a000005 0xffffffff 32
one_address = (inr (inl refl, (λ e. absurd (omega (arith, e))), refl), inr (inr refl, (λ e. absurd (omega (arith, e))), refl))

pub nothing_after_zero : (p : ℕ) → ¬ (SaysLength 0 0 p)
nothing_after_zero p (inl h) = h.0 (inl refl)
nothing_after_zero p (inr h) = h.1 refl

-- a list ends with a line feed if that is its last byte, even if nothing is before it
pub ends_with_a_feed : EndsWithFeed (10 ∷ []) × EndsWithFeed (codes "::1\r\n")
ends_with_a_feed = (([], refl), (codes "::1\r", refl))

pub nothing_ends_without : ¬ (EndsWithFeed [])
nothing_ends_without h = absurd (omega (arith, ap length h.1, length-append h.0 (10 ∷ [])))
