-- One place after another, in the order of lengths.
use Rattle.allotting.proofs.Words.{Bool, true, ◌≡◌, ◌↔◌, ℕ, ◌+◌, ◌<◌, ◌≤◌, ◌⊎◌, inl, inr, sym, refl, subst, ◌∙◌, arith, ⊎_elim, cases_lt, List, [], ◌∷◌, ◌++◌, Option, None, Some, MatchOption, drop, length, get_or, set, take, take_all, take-append-le, Contains, contains_cons, contains_head, contains_nil, pairs_head, Network, IsCidrBlock, high, has_ends, within_member, InFirstAlone, AreFreeBlocks, IsFreeBlock, ArePlaces, Covers, IsBefore, IsFirstFree, IsLeft, IsPlaced, NoneIsFree, IsPlacing, get_or-set_other, get_or-set_same, length-set, Member, InUnion, contains_tail, pairs_tail, union_append, union_cons, union_nil, InPoolAlone, IsFilling, HasLeft, AggregateHasUnion, DifferenceIsShortest, IsAggregate, IsLeastList}
use Rattle.std.specs.Prelude.{◌==◌}
use Rattle.std.proofs.lemmas.Bool.{eqb-true}
use Rattle.allotting.proofs.Pieces.{free_in_same}
use Rattle.allotting.proofs.Runs.{Apart}

-- ---- the first free block

module _ (w p : ℕ) where
  -- a block begins no later than it ends
  begins : (b : Network) → IsCidrBlock w b → b.address ≤ high w b
  begins b block =
      let m = within_member w b (high w b) (has_ends w b block.network).high_is_member in
      let e = block.block in
      omega (arith, m.0, e)

  -- the first of the free blocks is the first that is free
  first_of : (free : ℕ → Type 0) (b : Network) (others : List Network) → AreFreeBlocks w free p (b ∷ others)
      → IsFirstFree w free p b
  first_of free b others h =
      let one = (h.all b).0 (contains_head b others) in
      record {
        one = one;
        first = λ c f.
            ⊎_elim (λ (e : b ≡ c). subst (λ (x : Network). b.address ≤ x.address) e (omega arith))
            (λ (k : Contains others c). let l : high w b < c.address = pairs_head (Apart w) b others h.apart c k in
            let m = begins b one.block in omega (arith, l, m))
            (contains_cons b others c ((h.all c).1 f));
      }

  none_of : (free : ℕ → Type 0) → AreFreeBlocks w free p [] → NoneIsFree w free p
  none_of free h = λ b f. contains_nil b ((h.all b).1 f)

  -- the other free blocks are those of what the first leaves
  rest_free : (free left : ℕ → Type 0) (b : Network) (others : List Network) → AreFreeBlocks w free p (b ∷ others)
      → ((x : ℕ) → left x ↔ (free x × ¬ (Member w b x))) → AreFreeBlocks w left p others
  rest_free free left b others h e =
      let one = (h.all b).0 (contains_head b others) in
      record {
        all = λ c. (
          (λ k. let f = (h.all c).0 (contains_tail b others c k) in
              let l : high w b < c.address = pairs_head (Apart w) b others h.apart c k in
              let own = f.block.block in record {
                block = f.block;
                as_long = f.as_long;
                lies = λ x m. (e x).1 (
                  f.lies x m,
                  λ n.
                      let from = within_member w c x m in
                      let to = (has_ends w b one.block.network).within x n in
                      omega (arith, l, own, from.0, to.1),
                );
              }),
          (λ f. let own = (has_ends w c f.block.network).high_is_member in
              ⊎_elim
              (λ (s : b ≡ c). absurd (((e (high w c)).0 (f.lies (high w c) own)).1
              (subst (λ (n : Network). Member w n (high w c)) (sym s) own)))
              (λ (k : Contains others c). k)
              (contains_cons b others c ((h.all c).1 (record {
                block = f.block;
                as_long = f.as_long;
                lies = λ x m. ((e x).0 (f.lies x m)).0;
              })))),
        );
        apart = pairs_tail (Apart w) b others h.apart;
      }

  -- what is free of a set is free of another with the same addresses
  module _ (some same : ℕ → Type 0) (e : (x : ℕ) → some x ↔ same x) where
    free_same : (b : Network) → IsFreeBlock w some p b → IsFreeBlock w same p b
    free_same b f = record { block = f.block; as_long = f.as_long; lies = λ x m. (e x).0 (f.lies x m) }

    free_back : (b : Network) → IsFreeBlock w same p b → IsFreeBlock w some p b
    free_back b f = record { block = f.block; as_long = f.as_long; lies = λ x m. (e x).1 (f.lies x m) }

    first_same : (b : Network) → IsFirstFree w some p b → IsFirstFree w same p b
    first_same b h = record { one = free_same b h.one; first = λ c f. h.first c (free_back c f) }

    none_same : NoneIsFree w some p → NoneIsFree w same p
    none_same h = λ b f. h b (free_back b f)

-- ---- the order of the places

module _ (lengths : List ℕ) where
  abbrev at : ℕ → ℕ
  at j = get_or lengths j 0

  -- one index more: those before it, or itself
  before_step : (p i j : ℕ) → IsBefore lengths p (i + 1) j → IsBefore lengths p i j ⊎ ((j ≡ i) × (at j ≡ p))
  before_step p i j b =
      ⊎_elim (λ (l : at j < p). inl (b.0, inl l))
      (λ (m : (at j ≡ p) × (j < i + 1)).
      ⊎_elim (λ (l : j < i). inl (b.0, inr (m.0, l)))
      (λ (k : i ≤ j). inr ((let n = m.1 in omega (arith, k, n)), m.0)) (cases_lt j i))
      b.1

  before_more : (p i j : ℕ) → IsBefore lengths p i j → IsBefore lengths p (i + 1) j
  before_more p i j b = (
    b.0,
    ⊎_elim (λ (l : at j < p). inl l)
        (λ (m : (at j ≡ p) × (j < i)). inr (m.0, (let n = m.1 in omega (arith, n)))) b.1,
  )

  -- what is before a place before this is before this
  through : (p i j k : ℕ) → IsBefore lengths p i j → IsBefore lengths (at j) j k → IsBefore lengths p i k
  through p i j k b c =
      let low : at j ≤ p = ⊎_elim (λ (l : at j < p). omega (arith, l))
      (λ (m : (at j ≡ p) × (j < i)). let e = m.0 in omega (arith, e)) b.1 in (
        c.0,
        ⊎_elim (λ (l : at k < at j). inl (omega (arith, l, low)))
            (λ (m : (at k ≡ at j) × (k < j)).
            ⊎_elim (λ (l : at j < p). inl (let e = m.0 in omega (arith, l, e)))
            (λ (n : (at j ≡ p) × (j < i)). inr (m.0 ∙ n.0, (let s = m.1 in let t = n.1 in omega (arith, s, t)))) b.1) c.1,
      )

  -- no place is before itself
  before_other : (i j : ℕ) → IsBefore lengths (at i) i j → ¬ (j ≡ i)
  before_other i j b e =
      ⊎_elim (λ (l : at j < at i). let m : at i < at i = subst (λ (k : ℕ). at k < at i) e l in omega (arith, m))
      (λ (m : (at j ≡ at i) × (j < i)). let n = m.1 in omega (arith, n, e)) b.1

-- ---- the places

module _ {X : Type 0} (pair : X → Network) (w : ℕ) (first used : List Network) (lengths : List ℕ) where
  abbrev At : (ℕ → Type 0) → List (Option X) → ℕ → ℕ → Type 0
  At rest places p i = IsPlacing pair w first used rest lengths places p i

  abbrev Left : List (Option X) → ℕ → ℕ → ℕ → Type 0
  Left places p i x = IsLeft pair w (InFirstAlone w first used) lengths places p i x

  abbrev spot : List (Option X) → ℕ → Option X
  spot places j = get_or places j None

  left_same : (places others : List (Option X)) (p i : ℕ)
      → ((j : ℕ) → IsBefore lengths p i j → spot places j ≡ spot others j)
      → (x : ℕ) → Left places p i x ↔ Left others p i x
  left_same places others p i e x = (
    (λ l. (l.0, λ j b c. l.1 j b (subst (λ (o : Option X). Covers pair w o x) (sym (e j b)) c))),
    (λ l. (l.0, λ j b c. l.1 j b (subst (λ (o : Option X). Covers pair w o x) (e j b) c))),
  )

  match_same : (o q : Option X) (A B : Type 0) (P Q : X → Type 0) → o ≡ q → (A → B) → ((x : X) → P x → Q x)
      → MatchOption o A P → MatchOption q B Q
  match_same o q A B P Q e f g h = subst (λ (r : Option X). MatchOption r B Q) e (go o h)
    where
      go : (r : Option X) → MatchOption r A P → MatchOption r B Q
      go None k = f k
      go (Some x) k = g x k

  placed_same : (places others : List (Option X)) (j : ℕ) → spot places j ≡ spot others j
      → ((k : ℕ) → IsBefore lengths (get_or lengths j 0) j k → spot places k ≡ spot others k)
      → IsPlaced pair w (InFirstAlone w first used) lengths places j
      → IsPlaced pair w (InFirstAlone w first used) lengths others j
  placed_same places others j e f h =
      let p : ℕ = get_or lengths j 0 in
      let same = left_same places others p j f in
      match_same (spot places j) (spot others j)
      (NoneIsFree w (Left places p j) p) (NoneIsFree w (Left others p j) p)
      (λ x. IsFirstFree w (Left places p j) p (pair x)) (λ x. IsFirstFree w (Left others p j) p (pair x))
      e (none_same w p (Left places p j) (Left others p j) same)
      (λ x. first_same w p (Left places p j) (Left others p j) same (pair x)) h

  -- the same places, up to another index of another length
  moved : (rest : ℕ → Type 0) (places : List (Option X)) (p i q k : ℕ)
      → ((j : ℕ) → IsBefore lengths p i j ↔ IsBefore lengths q k j) → At rest places p i → At rest places q k
  moved rest places p i q k e h = record {
    one_each = h.one_each;
    left = λ x. (
      (λ m. let l = (h.left x).0 m in (l.0, λ j b. l.1 j ((e j).1 b))),
      (λ l. (h.left x).1 (l.0, λ j b. l.1 j ((e j).0 b))),
    );
    placed = λ j b. h.placed j ((e j).1 b);
  }

  -- another set with the same addresses is left
  at_same : (rest same : ℕ → Type 0) (places : List (Option X)) (p i : ℕ) → ((x : ℕ) → rest x ↔ same x)
      → At rest places p i → At same places p i
  at_same rest same places p i e h = record {
    one_each = h.one_each;
    left = λ x. ((λ m. (h.left x).0 ((e x).1 m)), (λ l. (e x).0 ((h.left x).1 l)));
    placed = h.placed;
  }

  -- the first free block of length p, or none, was taken from the rest
  record Takes (rest new : ℕ → Type 0) (p : ℕ) (found : Option X) : Type 0 where
    place : MatchOption found (NoneIsFree w rest p) (λ x. IsFirstFree w rest p (pair x))
    left : (x : ℕ) → new x ↔ (rest x × ¬ (Covers pair w found x))

  pub none_yet : (places : List (Option X)) → length places ≡ length lengths → At (InFirstAlone w first used) places 0 0
  none_yet places e =
      let none : (j : ℕ) → ¬ (IsBefore lengths 0 0 j) = λ j b.
      ⊎_elim (λ (l : get_or lengths j 0 < 0). omega (arith, l))
      (λ (m : (get_or lengths j 0 ≡ 0) × (j < 0)). let n = m.1 in omega (arith, n)) b.1 in
      record {
        one_each = e;
        left = λ x. ((λ m. (m, λ j b c. none j b)), (λ l. l.0));
        placed = λ j b. absurd (none j b);
      }

  -- the length at i is another
  passed : (rest : ℕ → Type 0) (places : List (Option X)) (p i : ℕ) → ¬ (get_or lengths i 0 ≡ p)
      → At rest places p i → At rest places p (i + 1)
  passed rest places p i other = moved rest places p i p (i + 1) (λ j. (
    before_more lengths p i j,
    (λ b. ⊎_elim (λ (c : IsBefore lengths p i j). c)
        (λ (m : (j ≡ i) × (get_or lengths j 0 ≡ p)).
        absurd (other (subst (λ (k : ℕ). get_or lengths k 0 ≡ p) m.0 m.1))) (before_step lengths p i j b)),
  ))

  -- all of a length have their places
  pub next_length : (rest : ℕ → Type 0) (places : List (Option X)) (p : ℕ) → At rest places p (length lengths)
      → At rest places (p + 1) 0
  next_length rest places p = moved rest places p (length lengths) (p + 1) 0 (λ j. (
    (λ b. (
      b.0,
      inl (⊎_elim (λ (l : get_or lengths j 0 < p). omega (arith, l))
          (λ (m : (get_or lengths j 0 ≡ p) × (j < length lengths)). let e = m.0 in omega (arith, e)) b.1),
    )),
    (λ b. (
      b.0,
      ⊎_elim (λ (l : get_or lengths j 0 < p + 1).
          ⊎_elim (λ (k : get_or lengths j 0 < p). inl k) (λ (k : p ≤ get_or lengths j 0). inr ((omega (arith, l, k)), b.0))
          (cases_lt (get_or lengths j 0) p))
          (λ (m : (get_or lengths j 0 ≡ p + 1) × (j < 0)). absurd (let n = m.1 in omega (arith, n))) b.1,
    )),
  ))

  pub all_placed : (rest : ℕ → Type 0) (places : List (Option X)) (p : ℕ)
      → ((i : ℕ) → i < length lengths → get_or lengths i 0 < p) → At rest places p 0
      → ArePlaces pair w (InFirstAlone w first used) lengths places
  all_placed rest places p less h =
      record { one_each = h.one_each; placed = λ i l. h.placed i (l, inl (less i l)) }

  -- the place at i, of this length, is taken
  module _ (rest new : ℕ → Type 0) (places : List (Option X)) (i : ℕ) (place : Option X)
      (within : i < length lengths) (h : At rest places (get_or lengths i 0) i)
      (t : Takes rest new (get_or lengths i 0) place) where
    abbrev p : ℕ
    p = get_or lengths i 0

    abbrev after : List (Option X)
    after = set places i place

    own : spot after i ≡ place
    own = get_or-set_same places i place None (let e = h.one_each in omega (arith, within, e))

    others : (j : ℕ) → ¬ (j ≡ i) → spot places j ≡ spot after j
    others j n = sym (get_or-set_other places i j place None n)

    kept : (j : ℕ) → IsBefore lengths p i j → spot places j ≡ spot after j
    kept j b = others j (before_other lengths i j b)

    same : (x : ℕ) → rest x ↔ Left after p i x
    same x = let l = left_same places after p i kept x in
        ((λ m. l.0 ((h.left x).0 m)), (λ k. (h.left x).1 (l.1 k)))

    own_placed : IsPlaced pair w (InFirstAlone w first used) lengths after i
    own_placed =
        match_same place (spot after i)
        (NoneIsFree w rest p) (NoneIsFree w (Left after p i) p)
        (λ x. IsFirstFree w rest p (pair x)) (λ x. IsFirstFree w (Left after p i) p (pair x))
        (sym own) (none_same w p rest (Left after p i) same)
        (λ x. first_same w p rest (Left after p i) same (pair x)) t.place

    own_before : IsBefore lengths p (i + 1) i
    own_before = (within, inr (refl, omega arith))

    taken_at : At new after p (i + 1)
    taken_at = record {
      one_each = length-set places i place ∙ h.one_each;
      left = λ x. (
        (λ m. let u = (t.left x).0 m in
            let l = (same x).0 u.0 in (
              l.0,
              λ j b c. ⊎_elim (λ (k : IsBefore lengths p i j). l.1 j k c)
                  (λ (e : (j ≡ i) × (get_or lengths j 0 ≡ p)). u.1 (subst (λ (o : Option X). Covers pair w o x) own
                  (subst (λ (k : ℕ). Covers pair w (spot after k) x) e.0 c))) (before_step lengths p i j b),
            )),
        (λ l. (t.left x).1 (
          (same x).1 (l.0, λ j b. l.1 j (before_more lengths p i j b)),
          λ c.
              l.1 i own_before (subst (λ (o : Option X). Covers pair w o x) (sym own) c),
        )),
      );
      placed = λ j b. ⊎_elim
          (λ (k : IsBefore lengths p i j). placed_same places after j (kept j k)
          (λ n c. kept n (through lengths p i j n k c)) (h.placed j k))
          (λ (e : (j ≡ i) × (get_or lengths j 0 ≡ p)).
          subst (λ (k : ℕ). IsPlaced pair w (InFirstAlone w first used) lengths after k) (sym e.0) own_placed)
          (before_step lengths p i j b);
    }

  -- ---- the blocks of one length

  abbrev Filling : List Network → List Network → List Network → List (Option X) → ℕ → ℕ → Type 0
  Filling pool taken blocks places p i = IsFilling pair w first pool used taken blocks lengths places p i

  -- no block was taken yet
  pub filling_starts : (pool taken blocks : List Network) (places : List (Option X)) (p : ℕ) → taken ≡ []
      → AreFreeBlocks w (InFirstAlone w pool used) p blocks → At (InFirstAlone w pool used) places p 0
      → Filling pool taken blocks places p 0
  filling_starts pool taken blocks places p none free h =
      let all : (x : ℕ) → InFirstAlone w pool used x ↔ InPoolAlone w pool used taken x = λ x. (
        (λ m. (m, λ u. union_nil w x (subst (λ (l : List Network). InUnion w l x) none u))),
        (λ m. m.0),
      ) in record {
        placing = at_same (InFirstAlone w pool used) (InPoolAlone w pool used taken) places p 0 all h;
        free = free_in_same w p (InFirstAlone w pool used) (InPoolAlone w pool used taken) blocks all free;
      }

  -- the block of the place at i is to have another length
  pub filling_passes : (pool taken blocks : List Network) (places : List (Option X)) (p i : ℕ)
      → ¬ (get_or lengths i 0 ≡ p) → Filling pool taken blocks places p i → Filling pool taken blocks places p (i + 1)
  filling_passes pool taken blocks places p i other h =
      record { placing = passed (InPoolAlone w pool used taken) places p i other h.placing; free = h.free }

  -- one block more was taken
  one_more : (pool taken : List Network) (b : Network) (x : ℕ)
      → InPoolAlone w pool used (taken ++ b ∷ []) x ↔ (InPoolAlone w pool used taken x × ¬ (Member w b x))
  one_more pool taken b x = let u = union_append w taken (b ∷ []) x in (
    (λ m. ((m.0, λ t. m.1 (u.1 (inl t))), λ n. m.1 (u.1 (inr (b, contains_head b [], n))))),
    (λ m. (
      m.0.0,
      λ t. ⊎_elim (λ (k : InUnion w taken x). m.0.1 k)
          (λ (k : InUnion w (b ∷ []) x). ⊎_elim (λ (n : Member w b x). m.1 n) (λ (n : InUnion w [] x). union_nil w x n)
          ((union_cons w b [] x).0 k)) (u.0 t),
    )),
  )

  -- the place at i, of this length, has the next free block, or none
  module _ (pool taken blocks after : List Network) (places : List (Option X)) (i p : ℕ) (within : i < length lengths)
      (is : get_or lengths i 0 ≡ p) (h : Filling pool taken blocks places p i) where
    abbrev rest : ℕ → Type 0
    rest = InPoolAlone w pool used taken

    filled : (new : ℕ → Type 0) (place : Option X) → Takes rest new p place → At new (set places i place) p (i + 1)
    filled new place t =
        subst (λ (r : ℕ). At new (set places i place) r (i + 1)) is
        (taken_at rest new places i place within (subst (λ (r : ℕ). At rest places r i) (sym is) h.placing)
        (subst (λ (r : ℕ). Takes rest new r place) (sym is) t))

    pub filling_lacks : (blocks ≡ []) × (after ≡ []) → Filling pool taken after (set places i None) p (i + 1)
    filling_lacks e = record {
      placing = filled rest None
          (record { place = none_of w p rest (subst (AreFreeBlocks w rest p) e.0 h.free); left = λ x. ((λ m. (m, λ n. n)), (λ m. m.0)) });
      free = subst (AreFreeBlocks w rest p) (e.0 ∙ sym e.1) h.free;
    }

    pub filling_takes : (b : X) (more : List Network) → blocks ≡ pair b ∷ after → more ≡ taken ++ pair b ∷ []
        → Filling pool more after (set places i (Some b)) p (i + 1)
    filling_takes b more e m =
        let free : AreFreeBlocks w rest p (pair b ∷ after) = subst (AreFreeBlocks w rest p) e h.free in
        subst (λ (t : List Network). Filling pool t after (set places i (Some b)) p (i + 1)) (sym m)
        (record {
          placing = filled (InPoolAlone w pool used (taken ++ pair b ∷ [])) (Some b)
              (record { place = first_of w p rest (pair b) after free; left = one_more pool taken (pair b) });
          free = rest_free w p rest (InPoolAlone w pool used (taken ++ pair b ∷ [])) (pair b) after free
              (one_more pool taken (pair b));
        })

  -- the blocks that were taken were removed from the pool
  pub removed : (pool new taken : List Network) (places : List (Option X)) (p i : ℕ) → HasLeft w pool taken new
      → At (InPoolAlone w pool used taken) places p i → At (InFirstAlone w new used) places p i
  removed pool new taken places p i e = at_same (InPoolAlone w pool used taken) (InFirstAlone w new used) places p i
      (λ x. (
        (λ m. ((e x).1 (m.0.0, m.1), m.0.1)),
        (λ m. let u = (e x).0 m.0 in ((u.0, m.1), u.1)),
      ))

-- ---- what was taken is removed

-- there are none if their number is 0, by a test
pub none_by : (n : ℕ) (is_zero : Bool) → is_zero ≡ (n == 0) → is_zero ≡ true → n ≡ 0
none_by n is_zero e t = eqb-true n 0 (sym e ∙ t)

-- nothing was taken
pub none_left : (w : ℕ) (pool taken : List Network) → length taken ≡ 0 → HasLeft w pool taken pool
none_left w pool [] none x = ((λ u. (u, λ t. union_nil w x t)), (λ m. m.0))
none_left w pool (b ∷ others) none x = absurd (omega (arith, none))

-- the blocks that were taken are the union of a set
pub all_left : (w : ℕ) (pool taken set blocks new : List Network) → AggregateHasUnion → DifferenceIsShortest
    → IsAggregate w taken set → IsLeastList w (InFirstAlone w pool set) blocks → new ≡ blocks → HasLeft w pool taken new
all_left w pool taken set blocks new union difference is least same x =
    let u = union w taken set is x in
    let d = (difference w pool set blocks least).addresses x in (
      (λ m. let k = d.0 (subst (λ (l : List Network). InUnion w l x) same m) in (k.0, λ t. k.1 (u.1 t))),
      (λ m. subst (λ (l : List Network). InUnion w l x) (sym same) (d.1 (m.0, λ t. m.1 (u.0 t)))),
    )

-- the list that a slice of all of it was changed to
pub whole_again : {A : Type 0} (len : ℕ) (new old : List A) → len ≡ length old → length new ≡ length old
    → take len (new ++ drop (length new) old) ≡ new
whole_again len new old is same =
    take-append-le len new (drop (length new) old) (omega (arith, is, same)) ∙ take_all len new (omega (arith, is, same))
