-- The list computed by halving is the least list of the addresses that pass the test.
use Rattle.ipnetwork_sets.proofs.Words.{◌≡◌, ◌↔◌, ℕ, zero, suc, ◌+◌, ◌-◌, ◌^◌, ◌<◌, ◌≤◌, ◌⊎◌, inl, inr, sym, refl, ap, subst, ◌∙◌, arith, ⊎_elim, List, [], ◌∷◌, ◌++◌, Bool, true, false, ◌&&◌, ◌||◌, not, leb, Option, None, Some, cases_lt, and_parts, leb-true, le-leb, Any-from_list_any, list_any-from_Any, Network, is_member, membership_computed, IsLeastList, InUnion, block_from, Begins, lower_begins, upper_begins, PartOf, whole_part, no_part, least_of_halves, cond_by, least_of_same, InBoth, InEither, all_from, least_within, least_blocks, in_union, common_blocks, either_blocks, is_from, left_blocks, IsFrom, InLeft}
use Rattle.std.proofs.lemmas.Bool.{true≢false}

-- ---- testing consecutive addresses

all_from_true : (test : ℕ → Bool) (start count : ℕ) → all_from test start count ≡ true → (x : ℕ) → start ≤ x
    → x < start + count → test x ≡ true
unfolding all_from
all_from_true test start zero t x l m = absurd (omega arith)
all_from_true test start (suc count) t x l m =
    let both = and_parts (test (start + count)) (all_from test start count) t in
    ⊎_elim
    (λ (less : x < start + count). all_from_true test start count both.1 x l less)
    (λ (le : start + count ≤ x). let e : start + count ≡ x = omega arith in subst (λ (y : ℕ). test y ≡ true) e both.0)
    (cases_lt x (start + count))

true_all_from : (test : ℕ → Bool) (start count : ℕ) → ((x : ℕ) → start ≤ x → x < start + count → test x ≡ true)
    → all_from test start count ≡ true
unfolding all_from
true_all_from test start zero all = refl
true_all_from test start (suc count) all =
    ap (λ b. b && all_from test start count) (all (start + count) (omega arith) (omega arith))
    ∙ true_all_from test start count (λ x l m. all x l (omega arith))

-- ---- the list computed by halving

-- the addresses that pass the test
abbrev Passes : (ℕ → Bool) → ℕ → Type 0
Passes test x = test x ≡ true

within_is_least : (test : ℕ → Bool) (w k base : ℕ) → Begins w k base
    → IsLeastList w (PartOf (Passes test) k base) (least_within test w k base)
unfolding least_within
within_is_least test w zero base h =
    let none : w - 0 ≡ w = omega arith in
    cond_by (IsLeastList w (PartOf (Passes test) 0 base)) (all_from test base (2 ^ 0))
    (record { address = base; prefix = w } ∷ []) []
    (λ t. subst (λ (p : ℕ). IsLeastList w (PartOf (Passes test) 0 base) (record { address = base; prefix = p } ∷ []))
    none
    (whole_part (Passes test) w 0 base h (all_from_true test base (2 ^ 0) t)))
    (λ t. no_part (Passes test) w base (λ pass. true≢false (sym (true_all_from test base (2 ^ 0)
    (λ x l m. let is : base ≡ x = omega arith in subst (Passes test) is pass)) ∙ t)))
within_is_least test w (suc k) base h =
    cond_by (IsLeastList w (PartOf (Passes test) (suc k) base)) (all_from test base (2 ^ suc k))
    (block_from w (suc k) base ∷ [])
    (least_within test w k base ++ least_within test w k (base + 2 ^ k))
    (λ t. whole_part (Passes test) w (suc k) base h (all_from_true test base (2 ^ suc k) t))
    (λ t. least_of_halves (Passes test) w k base (least_within test w k base) (least_within test w k (base + 2 ^ k)) h
    (λ all. true≢false (sym (true_all_from test base (2 ^ suc k) all) ∙ t))
    (within_is_least test w k base (lower_begins w k base h))
    (within_is_least test w k (base + 2 ^ k) (upper_begins w k base h)))

-- the blocks of a set of addresses of w bits, if exactly its addresses pass the test
pub least_blocks_of : (w : ℕ) (test : ℕ → Bool) (S : ℕ → Type 0) → ((x : ℕ) → S x → x < 2 ^ w)
    → ((x : ℕ) → x < 2 ^ w → (test x ≡ true) ↔ S x)
    → IsLeastList w S (least_blocks w test)
unfolding least_blocks
least_blocks_of w test S fits tells =
    least_of_same w (PartOf (Passes test) w 0) S (least_within test w w 0)
    (λ x. (
      (λ p. let l = p.1.1 in (tells x (omega arith)).0 p.0),
      (λ s. let l = fits x s in ((tells x l).1 s, (omega arith, omega arith))),
    ))
    (within_is_least test w w 0 (record { times = 0; multiple = omega arith; bits = omega arith; fits = omega arith }))

-- ---- the sets of this crate, as tests

pub union_told : (w : ℕ) (networks : List Network) (x : ℕ) → (in_union w networks x ≡ true) ↔ InUnion w networks x
unfolding in_union
union_told w networks x = (
  (λ t. let a = Any-from_list_any (λ n. is_member w n x) networks t in
      (a.1, (a.0, a.2, a.3), (membership_computed w a.1 x).0 a.4)),
  (λ c. list_any-from_Any (λ n. is_member w n x) networks
      (c.1.0, c.0, c.1.1, c.1.2, (membership_computed w c.0 x).1 c.2)),
)

pub common_is_least : (w : ℕ) (first second : List Network)
    → IsLeastList w (InBoth w first second) (common_blocks w first second)
unfolding common_blocks
common_is_least w first second =
    least_blocks_of w (λ x. in_union w first x && in_union w second x) (InBoth w first second)
    (λ x s. s.0.2.0)
    (λ x l. (
      (λ t. let both = and_parts (in_union w first x) (in_union w second x) t in
          ((union_told w first x).0 both.0, (union_told w second x).0 both.1)),
      (λ s. ap (λ b. b && in_union w second x) ((union_told w first x).1 s.0) ∙ (union_told w second x).1 s.1),
    ))

not_true : (b : Bool) → not b ≡ true → ¬ (b ≡ true)
not_true true t e = true≢false (sym t)
not_true false t e = true≢false (sym e)

true_not : (b : Bool) → ¬ (b ≡ true) → not b ≡ true
true_not true n = absurd (n refl)
true_not false n = refl

either_told : (a b : Bool) → a || b ≡ true → (a ≡ true) ⊎ (b ≡ true)
either_told true b t = inl refl
either_told false b t = inr t

told_either : (a b : Bool) → (a ≡ true) ⊎ (b ≡ true) → a || b ≡ true
told_either true b o = refl
told_either false b o = ⊎_elim (λ (e : false ≡ true). absurd (true≢false (sym e))) (λ (e : b ≡ true). e) o

from_told : (w : ℕ) (at_hand : Option (Network × ℕ)) (x : ℕ) → (is_from w at_hand x ≡ true) ↔ IsFrom w at_hand x
unfolding is_from
from_told w None x = ((λ t. true≢false (sym t)), (λ h. absurd h))
from_told w (Some p) x = (
  (λ t. let both = and_parts (is_member w p.0 x) (leb p.1 x) t in
      ((membership_computed w p.0 x).0 both.0, leb-true p.1 x both.1)),
  (λ h. ap (λ b. b && leb p.1 x) ((membership_computed w p.0 x).1 h.0) ∙ le-leb p.1 x h.1),
)

pub left_fits : (w : ℕ) (at_hand : Option (Network × ℕ)) (rest cut : List Network) (x : ℕ)
    → InLeft w at_hand rest cut x → x < 2 ^ w
left_fits w at_hand rest cut x s = ⊎_elim (λ (f : IsFrom w at_hand x). from_fits w at_hand x f)
    (λ (c : InUnion w rest x). c.2.0) s.0
  where
    from_fits : (w : ℕ) (at_hand : Option (Network × ℕ)) (x : ℕ) → IsFrom w at_hand x → x < 2 ^ w
    from_fits w None x f = absurd f
    from_fits w (Some p) x f = f.0.0

left_told : (w : ℕ) (at_hand : Option (Network × ℕ)) (rest cut : List Network) (x : ℕ)
    → ((is_from w at_hand x || in_union w rest x) && not (in_union w cut x) ≡ true) ↔ InLeft w at_hand rest cut x
left_told w at_hand rest cut x = (
  (λ t.
      let both = and_parts (is_from w at_hand x || in_union w rest x) (not (in_union w cut x)) t in (
        ⊎_elim (λ (f : is_from w at_hand x ≡ true). inl ((from_told w at_hand x).0 f))
            (λ (c : in_union w rest x ≡ true). inr ((union_told w rest x).0 c))
            (either_told (is_from w at_hand x) (in_union w rest x) both.0),
        λ c. not_true (in_union w cut x) both.1 ((union_told w cut x).1 c),
      )),
  (λ s.
      let front : (is_from w at_hand x || in_union w rest x) ≡ true =
      told_either (is_from w at_hand x) (in_union w rest x)
      (⊎_elim (λ (f : IsFrom w at_hand x). inl ((from_told w at_hand x).1 f))
      (λ (c : InUnion w rest x). inr ((union_told w rest x).1 c)) s.0) in
      ap (λ b. b && not (in_union w cut x)) front ∙ true_not (in_union w cut x) (λ t. s.1 ((union_told w cut x).0 t))),
)

by_test : (b : Bool) {P : Type 0} → (b ≡ true) ↔ P → P ⊎ ¬ P
by_test true h = inl (h.0 refl)
by_test false h = inr (λ p. true≢false (sym (h.1 p)))

pub left_or_not : (w : ℕ) (at_hand : Option (Network × ℕ)) (rest cut : List Network) (x : ℕ)
    → InLeft w at_hand rest cut x ⊎ ¬ (InLeft w at_hand rest cut x)
left_or_not w at_hand rest cut x = by_test ((is_from w at_hand x || in_union w rest x) && not (in_union w cut x))
    (left_told w at_hand rest cut x)

pub left_is_least : (w : ℕ) (at_hand : Option (Network × ℕ)) (rest cut : List Network)
    → IsLeastList w (InLeft w at_hand rest cut) (left_blocks w at_hand rest cut)
unfolding left_blocks
left_is_least w at_hand rest cut =
    least_blocks_of w (λ x. (is_from w at_hand x || in_union w rest x) && not (in_union w cut x))
    (InLeft w at_hand rest cut)
    (left_fits w at_hand rest cut)
    (λ x l. left_told w at_hand rest cut x)

pub either_is_least : (w : ℕ) (first second : List Network)
    → IsLeastList w (InEither w first second) (either_blocks w first second)
unfolding either_blocks
either_is_least w first second =
    least_blocks_of w (λ x. in_union w first x || in_union w second x) (InEither w first second)
    (λ x s. ⊎_elim (λ (c : InUnion w first x). c.2.0) (λ (c : InUnion w second x). c.2.0) s)
    (λ x l. (
      (λ t. ⊎_elim (λ (a : in_union w first x ≡ true). inl ((union_told w first x).0 a))
          (λ (b : in_union w second x ≡ true). inr ((union_told w second x).0 b))
          (either_told (in_union w first x) (in_union w second x) t)),
      (λ s. told_either (in_union w first x) (in_union w second x)
          (⊎_elim (λ (c : InUnion w first x). inl ((union_told w first x).1 c))
          (λ (c : InUnion w second x). inr ((union_told w second x).1 c)) s)),
    ))
