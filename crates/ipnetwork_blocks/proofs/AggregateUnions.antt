-- Unions of a list with one more network, of two halves and their block, and of networks without their host bits.
use Rattle.ipnetwork_blocks.proofs.Words.{◌≡◌, ◌↔◌, ℕ, ◌<◌, ◌⊎◌, inl, inr, sym, ap, subst, ◌∙◌, arith, ⊎_elim, List, [], ◌∷◌, ◌++◌, length, get_or, map, Contains, IsPermutation, IsPermutation-sym, Contains-permutation, get_or-map, length-map, Contains-append_left, Contains-push, Contains-push_cases, Contains-get_or, Network, IsCidrBlock, Member, high, block_of, Subnet, block_same_set, InUnion, SameUnion, parent, AreHalves, Contains-append_right, Contains-append_cases}
use Rattle.ipnetwork_blocks.proofs.HalfBlocks.{halves_join}

pub in_union_push : (w : ℕ) (r : List Network) (b : Network) (x : ℕ)
    → InUnion w (r ++ b ∷ []) x ↔ (InUnion w r x ⊎ Member w b x)
in_union_push w r b x = (
  (λ c. ⊎_elim
      (λ (d : Contains r c.0). inl (c.0, d, c.2))
      (λ (e : b ≡ c.0). inr (subst (λ (n : Network). Member w n x) (sym e) c.2))
      (Contains-push_cases r b c.0 c.1)),
  (λ o. ⊎_elim
      (λ (c : InUnion w r x). (c.0, Contains-append_left r (b ∷ []) c.0 c.1, c.2))
      (λ (m : Member w b x). (b, Contains-push r b, m)) o),
)

pub union_same : (w : ℕ) (r : List Network) → SameUnion w r r
union_same w r x = ((λ c. c), (λ c. c))

pub union_trans : (w : ℕ) (r s t : List Network) → SameUnion w r s → SameUnion w s t → SameUnion w r t
union_trans w r s t h k x = ((λ c. (k x).0 ((h x).0 c)), (λ c. (h x).1 ((k x).1 c)))

pub union_push : (w : ℕ) (r s : List Network) (b : Network) → SameUnion w r s → SameUnion w (r ++ b ∷ []) (s ++ b ∷ [])
union_push w r s b h x = (one w r s b h x, one w s r b (λ y. ((h y).1, (h y).0)) x)
  where
    one : (w : ℕ) (r s : List Network) (b : Network) → SameUnion w r s → (x : ℕ) → InUnion w (r ++ b ∷ []) x
        → InUnion w (s ++ b ∷ []) x
    one w r s b h x c = (in_union_push w s b x).1 (⊎_elim
        (λ (d : InUnion w r x). inl ((h x).0 d))
        (λ (m : Member w b x). inr m) ((in_union_push w r b x).0 c))

-- a network that lies in a network of the list adds no address
pub union_skip : (w : ℕ) (r : List Network) (b n : Network) → Contains r n → Subnet w b n → SameUnion w r (r ++ b ∷ [])
union_skip w r b n c s x = (
  (λ d. (in_union_push w r b x).1 (inl d)),
  (λ d. ⊎_elim (λ (e : InUnion w r x). e) (λ (m : Member w b x). (n, c, s x m)) ((in_union_push w r b x).0 d)),
)

-- two halves at the end of a list can be replaced by their block
pub union_join : (w : ℕ) (r : List Network) (t b : Network) → IsCidrBlock w t → IsCidrBlock w b → high w t < b.address
    → AreHalves w t b
    → SameUnion w (r ++ parent w t ∷ []) ((r ++ t ∷ []) ++ b ∷ [])
union_join w r t b ht hb l s x =
    let j = (halves_join w t b ht hb l s).1 x in (
      (λ c. (in_union_push w (r ++ t ∷ []) b x).1 (⊎_elim
          (λ (d : InUnion w r x). inl ((in_union_push w r t x).1 (inl d)))
          (λ (m : Member w (parent w t) x). ⊎_elim
          (λ (m : Member w t x). inl ((in_union_push w r t x).1 (inr m)))
          (λ (m : Member w b x). inr m) (j.0 m))
          ((in_union_push w r (parent w t) x).0 c))),
      (λ c. (in_union_push w r (parent w t) x).1 (⊎_elim
          (λ (d : InUnion w (r ++ t ∷ []) x). ⊎_elim
          (λ (d : InUnion w r x). inl d)
          (λ (m : Member w t x). inr (j.1 (inl m))) ((in_union_push w r t x).0 d))
          (λ (m : Member w b x). inr (j.1 (inr m)))
          ((in_union_push w (r ++ t ∷ []) b x).0 c))),
    )

pub union_cleared : (w : ℕ) (ns : List Network) → SameUnion w (map (block_of w) ns) ns
union_cleared w ns x = (
  (λ c.
      let k : ℕ = c.1.0 in
      let size = length-map ns (block_of w) in
      let n : Network = get_or ns k c.0 in
      let fits : k < length ns = let l = c.1.1 in omega arith in
      let is : c.0 ≡ block_of w n = sym c.1.2 ∙ get_or-map (block_of w) ns k c.0 c.0 fits in
      let m : Member w (block_of w n) x = subst (λ (t : Network). Member w t x) is c.2 in
      (n, Contains-get_or ns k c.0 fits, (block_same_set w n x).0 m)),
  (λ c.
      let k : ℕ = c.1.0 in
      let n : Network = c.0 in
      let size = length-map ns (block_of w) in
      let fits : k < length (map (block_of w) ns) = let l = c.1.1 in omega arith in (
        block_of w n,
        (k, fits, get_or-map (block_of w) ns k n (block_of w n) c.1.1 ∙ ap (block_of w) c.1.2),
        (block_same_set w n x).1 c.2,
      )),
)

pub union_permutation : (w : ℕ) (xs ys : List Network) → IsPermutation xs ys → SameUnion w ys xs
union_permutation w xs ys p x = (
  (λ c. (c.0, Contains-permutation ys xs c.0 (IsPermutation-sym xs ys p) c.1, c.2)),
  (λ c. (c.0, Contains-permutation xs ys c.0 p c.1, c.2)),
)

pub union_append : (w : ℕ) (a b : List Network) (x : ℕ) → InUnion w (a ++ b) x ↔ (InUnion w a x ⊎ InUnion w b x)
union_append w a b x = (
  (λ c. ⊎_elim (λ (d : Contains a c.0). inl (c.0, d, c.2)) (λ (d : Contains b c.0). inr (c.0, d, c.2))
      (Contains-append_cases a b c.0 c.1)),
  (λ p. ⊎_elim
      (λ (c : InUnion w a x). (c.0, Contains-append_left a b c.0 c.1, c.2))
      (λ (c : InUnion w b x). (c.0, Contains-append_right a b c.0 c.1, c.2)) p),
)
