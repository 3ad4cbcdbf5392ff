-- The ranges of the blocks of a set.
use Rattle.ipnetwork_sets.proofs.Words.{◌≡◌, ◌↔◌, ℕ, suc, ◌+◌, ◌<◌, ◌≤◌, ◌⊎◌, inl, inr, sym, refl, ap, subst, ◌∙◌, arith, ⊎_elim, List, [], ◌∷◌, cond, get_or, Option, None, Some, MatchOption, cases_eq, cases_lt, eq-eqb, ne_eqb, All, Contains, All-cons, All-contains, Contains-get_or, AllPairs-cons, Network, IsCidrBlock, Member, low, high, size_pos, within_member, member_within, FromTo, InUnion, AggregateIsApart, contains_cons, contains_head, contains_tail, contains_nil, pairs_tail, pairs_head, IsAddressSet, InRanges, IsRangeList, Touches, put_in_front, runs, runs_left}
use Rattle.std.proofs.Common.{option_map}
use Rattle.ipnetwork_sets.proofs.Lists.{set_block}
use Rattle.ipnetwork_sets.proofs.Steps.{tail_is_set, union_cons, union_nil, union_behind}

-- ---- a range in front of others

abbrev Range : Type 0
Range = ℕ × ℕ

pub ranges_cons : (r : Range) (rs : List Range) (x : ℕ) → InRanges (r ∷ rs) x ↔ (FromTo r.0 r.1 x ⊎ InRanges rs x)
ranges_cons r rs x = (
  (λ c. ⊎_elim
      (λ (e : r ≡ c.0). inl (subst (λ (s : Range). FromTo s.0 s.1 x) (sym e) c.2))
      (λ (d : Contains rs c.0). inr (c.0, d, c.2))
      (contains_cons r rs c.0 c.1)),
  (λ o. ⊎_elim
      (λ (f : FromTo r.0 r.1 x). (r, contains_head r rs, f))
      (λ (c : InRanges rs x). (c.0, contains_tail r rs c.0 c.1, c.2)) o),
)

pub ranges_nil : (x : ℕ) → InRanges [] x → ⊥
ranges_nil x c = contains_nil c.0 c.1

all_head : {X : Type 0} (P : X → Type 0) (x : X) (xs : List X) → All P (x ∷ xs) → P x
all_head P x xs h = All-contains P (x ∷ xs) x h (contains_head x xs)

all_tail : {X : Type 0} (P : X → Type 0) (x : X) (xs : List X) → All P (x ∷ xs) → All P xs
all_tail P x xs h k d l = h (suc k) d (omega arith)

all_from : {X : Type 0} (P : X → Type 0) (xs : List X) → ((x : X) → Contains xs x → P x) → All P xs
all_from P xs h k d l = h (get_or xs k d) (Contains-get_or xs k d l)

abbrev Gap : Range → Range → Type 0
Gap r s = r.1 + 1 < s.0

-- the range is not joined with the others
front_alone : (S T : ℕ → Type 0) (first last : ℕ) (rs : List Range) → first ≤ last
    → ((x : ℕ) → S x ↔ (FromTo first last x ⊎ T x)) → IsRangeList T rs
    → ((r : Range) → Contains rs r → last + 1 < r.0) → IsRangeList S ((first, last) ∷ rs)
front_alone S T first last rs le parts h after = record {
  addresses = λ x.
      let both = ranges_cons (first, last) rs x in (
        (λ c. (parts x).1 (⊎_elim (λ (f : FromTo first last x). inl f)
            (λ (d : InRanges rs x). inr ((h.addresses x).0 d)) (both.0 c))),
        (λ s. both.1 (⊎_elim (λ (f : FromTo first last x). inl f) (λ (t : T x). inr ((h.addresses x).1 t))
            ((parts x).0 s))),
      );
  ordered = All-cons (λ r. r.0 ≤ r.1) (first, last) rs le h.ordered;
  apart = AllPairs-cons Gap (first, last) rs (all_from (Gap (first, last)) rs after) h.apart;
}

-- the range is joined with the first of the others
front_joined : (S T : ℕ → Type 0) (first last : ℕ) (s : Range) (rs : List Range) → first ≤ last
    → ((x : ℕ) → S x ↔ (FromTo first last x ⊎ T x)) → IsRangeList T (s ∷ rs)
    → last + 1 ≡ s.0 → IsRangeList S ((first, s.1) ∷ rs)
front_joined S T first last s rs le parts h at =
    let own : s.0 ≤ s.1 = all_head (λ r. r.0 ≤ r.1) s rs h.ordered in
    record {
      addresses = λ x.
          let both = ranges_cons (first, s.1) rs x in
          let split = ranges_cons s rs x in (
            (λ c. ⊎_elim
                (λ (f : FromTo first s.1 x).
                let a = f.0 in
                let b = f.1 in
                ⊎_elim
                (λ (l : x < s.0). (parts x).1 (inl (a, omega arith)))
                (λ (l : s.0 ≤ x). (parts x).1 (inr ((h.addresses x).0 (split.1 (inl (l, b))))))
                (cases_lt x s.0))
                (λ (d : InRanges rs x). (parts x).1 (inr ((h.addresses x).0 (split.1 (inr d)))))
                (both.0 c)),
            (λ k. ⊎_elim
                (λ (f : FromTo first last x). let a = f.0 in let b = f.1 in both.1 (inl (a, omega arith)))
                (λ (t : T x). ⊎_elim
                (λ (f : FromTo s.0 s.1 x). let a = f.0 in let b = f.1 in both.1 (inl (omega arith, b)))
                (λ (d : InRanges rs x). both.1 (inr d))
                (split.0 ((h.addresses x).1 t)))
                ((parts x).0 k)),
          );
      ordered = All-cons (λ r. r.0 ≤ r.1) (first, s.1) rs (omega arith) (all_tail (λ r. r.0 ≤ r.1) s rs h.ordered);
      apart = AllPairs-cons Gap (first, s.1) rs
          (all_from (Gap (first, s.1)) rs (λ r c. pairs_head Gap s rs h.apart r c)) (pairs_tail Gap s rs h.apart);
    }

put_joined : (r s : Range) (rest : List Range) → r.1 + 1 ≡ s.0 → put_in_front r (s ∷ rest) ≡ (r.0, s.1) ∷ rest
unfolding put_in_front
put_joined r s rest e = ap (λ b. cond b ((r.0, s.1) ∷ rest) (r ∷ s ∷ rest)) (eq-eqb (r.1 + 1) s.0 e)

put_apart : (r s : Range) (rest : List Range) → (r.1 + 1 ≡ s.0 → ⊥) → put_in_front r (s ∷ rest) ≡ r ∷ s ∷ rest
unfolding put_in_front
put_apart r s rest n = ap (λ b. cond b ((r.0, s.1) ∷ rest) (r ∷ s ∷ rest)) (ne_eqb (r.1 + 1) s.0 n)

put_alone : (r : Range) → put_in_front r [] ≡ r ∷ []
unfolding put_in_front
put_alone r = refl

front_is_list : (S T : ℕ → Type 0) (first last : ℕ) (rs : List Range) → first ≤ last
    → ((x : ℕ) → S x ↔ (FromTo first last x ⊎ T x)) → ((x : ℕ) → T x → last < x)
    → IsRangeList T rs → IsRangeList S (put_in_front (first, last) rs)
front_is_list S T first last [] le parts behind h =
    subst (IsRangeList S) (sym (put_alone (first, last)))
    (front_alone S T first last [] le parts h (λ r c. absurd (contains_nil r c)))
front_is_list S T first last (s ∷ rest) le parts behind h =
    let own : s.0 ≤ s.1 = all_head (λ r. r.0 ≤ r.1) s rest h.ordered in
    let after : last < s.0 = behind s.0 ((h.addresses s.0).0 (s, contains_head s rest, (omega arith, own))) in
    ⊎_elim
    (λ (e : last + 1 ≡ s.0). subst (IsRangeList S) (sym (put_joined (first, last) s rest e))
    (front_joined S T first last s rest le parts h e))
    (λ (n : last + 1 ≡ s.0 → ⊥).
    let gap : last + 1 < s.0 = not_next last s.0 after n in
    subst (IsRangeList S) (sym (put_apart (first, last) s rest n)) (front_alone S T first last (s ∷ rest) le parts h
    (λ r c. ⊎_elim
    (λ (e : s ≡ r). subst (λ (t : Range). last + 1 < t.0) e gap)
    (λ (d : Contains rest r). let g : s.1 + 1 < r.0 = pairs_head Gap s rest h.apart r d in omega arith)
    (contains_cons s rest r c))))
    (cases_eq (last + 1) s.0)
  where
    not_next : (a b : ℕ) → a < b → (a + 1 ≡ b → ⊥) → a + 1 < b
    not_next a b l n = ⊎_elim (λ (m : a + 1 < b). m) (λ (m : b ≤ a + 1). let e : a + 1 ≡ b = omega arith in
        let r : a + 1 < b = absurd (n e) in r) (cases_lt (a + 1) b)

-- ---- the ranges of a set

runs_nil : (w : ℕ) → runs w [] ≡ []
unfolding runs
runs_nil w = refl

runs_cons : (w : ℕ) (b : Network) (bs : List Network) → runs w (b ∷ bs) ≡ put_in_front (low w b, high w b) (runs w bs)
unfolding runs
runs_cons w b bs = refl

nothing : (S : ℕ → Type 0) → ((x : ℕ) → ¬ (S x)) → IsRangeList S []
nothing S none = record {
  addresses = λ x. ((λ c. absurd (ranges_nil x c)), (λ s. absurd (none x s)));
  ordered = λ k d l. absurd (omega arith);
  apart = λ i j d l m. absurd (omega arith);
}

pub runs_are_ranges : (w : ℕ) (bs : List Network) → AggregateIsApart → IsAddressSet w bs
    → IsRangeList (InUnion w bs) (runs w bs)
runs_are_ranges w [] apart h =
    subst (IsRangeList (InUnion w [])) (sym (runs_nil w)) (nothing (InUnion w []) (union_nil w))
runs_are_ranges w (b ∷ bs) apart h =
    let hb : IsCidrBlock w b = set_block w (b ∷ bs) b h (contains_head b bs) in
    let pos = size_pos w b.prefix in
    subst (IsRangeList (InUnion w (b ∷ bs))) (sym (runs_cons w b bs))
    (front_is_list (InUnion w (b ∷ bs)) (InUnion w bs) (low w b) (high w b) (runs w bs) (omega arith)
    (λ x. (
      (λ c. ⊎_elim
          (λ (m : Member w b x). let i = within_member w b x m in let a = i.0 in let z = i.1 in inl (a, omega arith))
          (λ (d : InUnion w bs x). inr d) ((union_cons w b bs x).0 c)),
      (λ o. (union_cons w b bs x).1 (⊎_elim
          (λ (f : FromTo (low w b) (high w b) x). let a = f.0 in let z = f.1 in
          inl (member_within w b hb.network x a (omega arith)))
          (λ (d : InUnion w bs x). inr d) o)),
    ))
    (union_behind w b bs apart h)
    (runs_are_ranges w bs apart (tail_is_set w b bs apart h)))

-- ---- the loop of `last_of_run`

-- a range, and one right after it, in front of others
fronts_join : (a l b h : ℕ) (rs : List Range) → l + 1 ≡ b
    → put_in_front (a, l) (put_in_front (b, h) rs) ≡ put_in_front (a, h) rs
fronts_join a l b h [] e =
    ap (put_in_front (a, l)) (put_alone (b, h)) ∙ put_joined (a, l) (b, h) [] e ∙ sym (put_alone (a, h))
fronts_join a l b h (s ∷ rest) e =
    ⊎_elim
    (λ (f : h + 1 ≡ s.0). ap (put_in_front (a, l)) (put_joined (b, h) s rest f) ∙ put_joined (a, l) (b, s.1) rest e
    ∙ sym (put_joined (a, h) s rest f))
    (λ (n : h + 1 ≡ s.0 → ⊥). ap (put_in_front (a, l)) (put_apart (b, h) s rest n)
    ∙ put_joined (a, l) (b, h) (s ∷ rest) e ∙ sym (put_apart (a, h) s rest n))
    (cases_eq (h + 1) s.0)

-- a range, and one that does not begin right after it, in front of others
fronts_apart : (a l b h : ℕ) (rs : List Range) → (l + 1 ≡ b → ⊥) → put_in_front (a, l) (put_in_front (b, h) rs) ≡ (a, l)
    ∷ put_in_front (b, h) rs
fronts_apart a l b h [] n =
    ap (put_in_front (a, l)) (put_alone (b, h)) ∙ put_apart (a, l) (b, h) [] n
    ∙ ap (λ t. (a, l) ∷ t) (sym (put_alone (b, h)))
fronts_apart a l b h (s ∷ rest) n =
    ⊎_elim
    (λ (f : h + 1 ≡ s.0). ap (put_in_front (a, l)) (put_joined (b, h) s rest f) ∙ put_apart (a, l) (b, s.1) rest n
    ∙ ap (λ t. (a, l) ∷ t) (sym (put_joined (b, h) s rest f)))
    (λ (m : h + 1 ≡ s.0 → ⊥). ap (put_in_front (a, l)) (put_apart (b, h) s rest m)
    ∙ put_apart (a, l) (b, h) (s ∷ rest) n ∙ ap (λ t. (a, l) ∷ t) (sym (put_apart (b, h) s rest m)))
    (cases_eq (h + 1) s.0)

-- the run has reached the block `last`, and the blocks `left` come after it
pub record IsRunning (w : ℕ) (first : Network) (entry : List Network) (last : Network)
    (left : List Network) : Type 0 where
  pub set : IsAddressSet w (last ∷ left)
  pub same : runs w (first ∷ entry) ≡ put_in_front (low w first, high w last) (runs w left)

pub run_starts : (w : ℕ) (first : Network) (entry : List Network) → IsAddressSet w (first ∷ entry)
    → IsRunning w first entry first entry
run_starts w first entry h = record { set = h; same = runs_cons w first entry }

pub run_goes_on : (w : ℕ) (first : Network) (entry : List Network) (last b : Network) (left after : List Network)
    → AggregateIsApart
    → IsRunning w first entry last left → left ≡ b ∷ after → Touches w last b → IsRunning w first entry b after
run_goes_on w first entry last b left after apart h e t =
    let tail : IsAddressSet w left = tail_is_set w last left apart h.set in
    let set : IsAddressSet w (b ∷ after) = subst (IsAddressSet w) e tail in
    let hb : IsCidrBlock w b = set_block w (b ∷ after) b set (contains_head b after) in
    let block = hb.block in
    record {
      set = set;
      same = h.same ∙ ap (λ l. put_in_front (low w first, high w last) (runs w l)) e
          ∙ ap (put_in_front (low w first, high w last)) (runs_cons w b after)
          ∙ fronts_join (low w first) (high w last) (low w b) (high w b) (runs w after) (t ∙ block);
    }

pub run_is_last : (w : ℕ) (first : Network) (entry : List Network) (last : Network) (left : List Network)
    → IsRunning w first entry last left → left ≡ []
    → runs w (first ∷ entry) ≡ (low w first, high w last) ∷ []
run_is_last w first entry last left h e =
    h.same ∙ ap (λ l. put_in_front (low w first, high w last) (runs w l)) e
    ∙ ap (put_in_front (low w first, high w last)) (runs_nil w)
    ∙ put_alone (low w first, high w last)

pub run_ends : (w : ℕ) (first : Network) (entry : List Network) (last b : Network) (left after : List Network)
    → AggregateIsApart
    → IsRunning w first entry last left → left ≡ b ∷ after → ¬ (Touches w last b)
    → runs w (first ∷ entry) ≡ (low w first, high w last) ∷ runs w (b ∷ after)
run_ends w first entry last b left after apart h e t =
    let tail : IsAddressSet w left = tail_is_set w last left apart h.set in
    let hb : IsCidrBlock w b = set_block w (b ∷ after) b (subst (IsAddressSet w) e tail) (contains_head b after) in
    let block = hb.block in
    let front = runs_cons w b after in
    h.same ∙ ap (λ l. put_in_front (low w first, high w last) (runs w l)) e
    ∙ ap (put_in_front (low w first, high w last)) front
    ∙ fronts_apart (low w first) (high w last) (low w b) (high w b) (runs w after) (λ at. t (at ∙ sym block))
    ∙ ap (λ l. (low w first, high w last) ∷ l) (sym front)

-- ---- the first block is read ahead

pub ahead_runs : (w : ℕ) {X : Type 0} (pair : X → Network) (ahead : Option X) (entry left : List Network)
    → AggregateIsApart → IsAddressSet w entry
    → MatchOption ahead ((entry ≡ []) × (left ≡ [])) (λ b. entry ≡ pair b ∷ left)
    → IsRangeList (InUnion w entry) (runs_left w (option_map pair ahead) left)
ahead_runs w pair None entry left apart h e =
    subst (λ (l : List Network). IsRangeList (InUnion w l) []) (sym e.0) (nothing (InUnion w []) (union_nil w))
ahead_runs w pair (Some b) entry left apart h e =
    subst (λ (l : List Network). IsRangeList (InUnion w entry) (runs w l)) e (runs_are_ranges w entry apart h)
