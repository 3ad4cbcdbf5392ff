-- Whether a dot or a colon comes first among the first bytes of a text.
use Rattle.ipnetwork_addr.proofs.Words.{◌≡◌, ℕ, ◌+◌, ◌<◌, ◌==◌, Bool, true, false, cond, not, List, [], ◌∷◌, ◌++◌, refl, arith, prefix_len, dot, colon, colon_first}

-- fewer bytes come before the first colon than before the first dot, or vice versa
abbrev Fewer : Bool → ℕ → ℕ → Type 0
Fewer true colons dots = colons < dots
Fewer false colons dots = dots < colons

pub first_is : (b : Bool) (xs rest : List ℕ) → Fewer b (prefix_len (λ x. not (x == colon)) xs)
    (prefix_len (λ x. not (x == dot)) xs) → colon_first (xs ++ rest) ≡ b
first_is true [] rest fewer = absurd (omega arith)
first_is false [] rest fewer = absurd (omega arith)
first_is b (x ∷ xs) rest fewer = go b (x == colon) (x == dot) fewer (first_is b xs rest)
  where
    go : (b c d : Bool) → Fewer b (cond (not c) (1 + prefix_len (λ y. not (y == colon)) xs) 0)
        (cond (not d) (1 + prefix_len (λ y. not (y == dot)) xs) 0)
        → (Fewer b (prefix_len (λ y. not (y == colon)) xs) (prefix_len (λ y. not (y == dot)) xs)
        → colon_first (xs ++ rest) ≡ b)
        → cond c true (cond d false (colon_first (xs ++ rest))) ≡ b
    go true true d fewer more = refl
    go true false true fewer more = absurd (omega arith)
    go true false false fewer more = more (omega arith)
    go false true d fewer more = absurd (omega arith)
    go false false true fewer more = refl
    go false false false fewer more = more (omega arith)
