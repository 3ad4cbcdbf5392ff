-- The union of two sets, run by run.
use Rattle.ipnetwork_sets.proofs.Words.{◌≡◌, ◌↔◌, ℕ, ◌+◌, ◌^◌, ◌<◌, ◌≤◌, ◌⊎◌, inl, inr, sym, refl, ap, subst, ◌∙◌, arith, ⊎_elim, List, [], ◌∷◌, ◌++◌, suc, length, Option, None, Some, MatchOption, cases_lt, MakesProgress, item_count, Network, IsNetwork, IsCidrBlock, Member, low, high, size_pos, has_ends, high_fits, within_member, member_within, LiesIn, IsLeastList, RangeIsShortest, InUnion, AggregateIsApart, FromTo, own_address, contains_head, least_of_none, least_of_one, least_of_same, least_of_two, least_unique, IsAddressSet, InEither, either_blocks, at_hand, IsFirst, EndsAt, IsLater, IsGrowing, IsRun}
use Rattle.ipnetwork_sets.proofs.LeastBlocks.{either_is_least}
use Rattle.ipnetwork_sets.proofs.Lists.{set_block}
use Rattle.ipnetwork_sets.proofs.Steps.{tail_is_set, union_cons, union_nil, union_behind, union_from}

-- ---- a run that grows

-- a run from s to l is extended by a block that leaves no gap
run_grows : (w : ℕ) (S R T : ℕ → Type 0) (s l last : ℕ) (b : Network) → IsCidrBlock w b
    → ((x : ℕ) → R x ↔ (Member w b x ⊎ T x)) → s ≤ b.address → b.address ≤ l + 1
    → IsLater l (high w b) last → ((x : ℕ) → S x ↔ (FromTo s l x ⊎ R x)) → (x : ℕ) → S x ↔ (FromTo s last x ⊎ T x)
run_grows w S R T s l last b hb split from to later parts x =
    let block = hb.block in
    let pos = size_pos w b.prefix in
    let more = later.first in
    let ends = later.second in (
      (λ k. ⊎_elim
          (λ (f : FromTo s l x). let a = f.0 in let z = f.1 in inl (a, omega arith))
          (λ (r : R x). ⊎_elim
          (λ (m : Member w b x). let i = within_member w b x m in let a = i.0 in let z = i.1 in
          inl (omega arith, omega arith))
          (λ (t : T x). inr t)
          ((split x).0 r))
          ((parts x).0 k)),
      (λ o. ⊎_elim
          (λ (f : FromTo s last x).
          let a = f.0 in
          let z = f.1 in
          ⊎_elim
          (λ (near : x < l + 1). (parts x).1 (inl (a, omega arith)))
          (λ (far : l + 1 ≤ x).
          let is : last ≡ high w b = ⊎_elim (λ (e : last ≡ l). let r : last ≡ high w b = absurd (omega arith) in
          r) (λ (e : last ≡ high w b). e) later.one in
          (parts x).1 (inr ((split x).1 (inl (member_within w b hb.network x (omega arith) (omega arith))))))
          (cases_lt x (l + 1)))
          (λ (t : T x). (parts x).1 (inr ((split x).1 (inr t))))
          o),
    )

either_first : (w : ℕ) (b : Network) (others rest : List Network) (x : ℕ) → InEither w (b ∷ others) rest x
    ↔ (Member w b x ⊎ InEither w others rest x)
either_first w b others rest x =
    let split = union_cons w b others x in (
      (λ o. ⊎_elim
          (λ (c : InUnion w (b ∷ others) x). ⊎_elim (λ (m : Member w b x). inl m)
          (λ (d : InUnion w others x). inr (inl d)) (split.0 c))
          (λ (c : InUnion w rest x). inr (inr c)) o),
      (λ o. ⊎_elim
          (λ (m : Member w b x). inl (split.1 (inl m)))
          (λ (e : InEither w others rest x). ⊎_elim (λ (c : InUnion w others x). inl (split.1 (inr c)))
          (λ (c : InUnion w rest x). inr c) e) o),
    )

-- the network that begins first is a block
pub first_is_block : (w : ℕ) (first second : List Network) (b : Network) (others rest : List Network)
    → IsAddressSet w first → IsAddressSet w second → IsFirst first second b others rest → IsCidrBlock w b
first_is_block w first second b others rest hf hs is =
    ⊎_elim
    (λ (p : (first ≡ b ∷ others) × (second ≡ rest)). set_block w (b ∷ others) b (subst (IsAddressSet w) p.0 hf)
    (contains_head b others))
    (λ (p : (first ≡ others) × (second ≡ b ∷ rest)). set_block w (b ∷ rest) b (subst (IsAddressSet w) p.1 hs)
    (contains_head b rest))
    is.one

-- a run grows in the same way if the two sets are exchanged
growing_swaps : (w : ℕ) (first second : List Network) (start last : ℕ) (others rest : List Network)
    → IsGrowing w first second start last others rest
    → IsGrowing w second first start last rest others
growing_swaps w first second start last others rest h = record {
  ordered = h.ordered;
  fits = h.fits;
  others_are_set = h.rest_is_set;
  rest_is_set = h.others_are_set;
  parts = λ x. (
    (λ e. ⊎_elim (λ (f : FromTo start last x). inl f) (λ (o : InEither w others rest x). inr (swap others rest x o))
        ((h.parts x).0 (swap second first x e))),
    (λ o. swap first second x ((h.parts x).1 (⊎_elim (λ (f : FromTo start last x). inl f)
        (λ (e : InEither w rest others x). inr (swap rest others x e)) o))),
  );
  from = λ x e. h.from x (swap rest others x e);
}
  where
    swap : (a c : List Network) (x : ℕ) → InEither w a c x → InEither w c a x
    swap a c x o = ⊎_elim (λ (m : InUnion w a x). inr m) (λ (m : InUnion w c x). inl m) o

one_block : (w : ℕ) (b : Network) → IsCidrBlock w b → (x : ℕ) → Member w b x ↔ FromTo (low w b) (high w b) x
one_block w b hb x =
    let pos = size_pos w b.prefix in (
      (λ m. let i = within_member w b x m in let a = i.0 in let z = i.1 in (a, omega arith)),
      (λ f. let a = f.0 in let z = f.1 in member_within w b hb.network x a (omega arith)),
    )

-- no address of a set comes before its first block
not_before : (w : ℕ) (list : List Network) (at : ℕ) → AggregateIsApart → IsAddressSet w list
    → ((c : Network) (more : List Network) → list ≡ c ∷ more → at ≤ c.address)
    → (x : ℕ) → InUnion w list x → at ≤ x
not_before w [] at apart h low x c = absurd (union_nil w x c)
not_before w (b ∷ bs) at apart h low x c = let l = low b bs refl in let m = union_from w b bs apart h x c in omega arith

begin : (w : ℕ) (S R : ℕ → Type 0) (b : Network) → IsCidrBlock w b → ((x : ℕ) → S x ↔ (Member w b x ⊎ R x)) → (x : ℕ)
    → S x ↔ (FromTo (low w b) (high w b) x ⊎ R x)
begin w S R b hb split x =
    let same = one_block w b hb x in (
      (λ s. ⊎_elim (λ (m : Member w b x). inl (same.0 m)) (λ (r : R x). inr r) ((split x).0 s)),
      (λ o. (split x).1 (⊎_elim (λ (f : FromTo (low w b) (high w b) x). inl (same.1 f)) (λ (r : R x). inr r) o)),
    )

module _ (w : ℕ) (apart : AggregateIsApart) where
  starts : (b : Network) (others rest : List Network) → IsAddressSet w (b ∷ others) → IsAddressSet w rest
      → ((c : Network) (more : List Network) → rest ≡ c ∷ more → b.address ≤ c.address)
      → IsGrowing w (b ∷ others) rest (low w b) (high w b) others rest
  starts b others rest set hr lowest =
      let hb : IsCidrBlock w b = set_block w (b ∷ others) b set (contains_head b others) in
      let pos = size_pos w b.prefix in
      let block = hb.block in
      let top = high_fits w b hb.network in
      record {
        ordered = omega arith;
        fits = omega (arith, top, pos);
        others_are_set = tail_is_set w b others apart set;
        rest_is_set = hr;
        parts = begin w (InEither w (b ∷ others) rest) (InEither w others rest) b hb (either_first w b others rest);
        from = λ x e. ⊎_elim
            (λ (c : InUnion w others x). let l = union_behind w b others apart set x c in
            let r : low w b ≤ x = omega arith in r)
            (λ (c : InUnion w rest x). let l = not_before w rest b.address apart hr lowest x c in
            let r : low w b ≤ x = omega arith in r) e;
      }

  pub growing_starts : (first second : List Network) (b : Network) (others rest : List Network) → IsAddressSet w first
      → IsAddressSet w second → IsFirst first second b others rest
      → IsGrowing w first second (low w b) (high w b) others rest
  growing_starts first second b others rest hf hs is =
      ⊎_elim
      (λ (p : (first ≡ b ∷ others) × (second ≡ rest)).
      rw (p.0, p.1) (starts b others rest (rw p.0 at hf) (rw p.1 at hs) (λ c more e. is.lowest c more (inr (p.1 ∙ e)))))
      (λ (p : (first ≡ others) × (second ≡ b ∷ rest)).
      rw (p.0, p.1) (growing_swaps w (b ∷ rest) others (low w b) (high w b) rest others
      (starts b rest others (rw p.1 at hs) (rw p.0 at hf) (λ c more e. is.lowest c more (inl (p.0 ∙ e))))))
      is.one

  module _ (first second : List Network) (start last next : ℕ) (b : Network) (others rest : List Network)
      (h : IsGrowing w first second start last others rest)
      (near : b.address ≤ last + 1) (later : IsLater last (high w b) next) where
    pub grows_by_first : (after : List Network) → others ≡ b ∷ after → IsGrowing w first second start next after rest
    grows_by_first after e =
        let set : IsAddressSet w (b ∷ after) = subst (IsAddressSet w) e h.others_are_set in
        let hb : IsCidrBlock w b = set_block w (b ∷ after) b set (contains_head b after) in
        let own : Member w b b.address = own_address w b hb.network in
        let here : InEither w others rest b.address = inl (subst (λ (l : List Network). InUnion w l b.address) (sym e)
        ((union_cons w b after b.address).1 (inl own))) in
        let top = high_fits w b hb.network in
        let pos = size_pos w b.prefix in
        let begins = h.ordered in
        let fits = h.fits in
        let up = later.first in record {
          ordered = omega arith;
          fits = ⊎_elim (λ (is : next ≡ last). let r : next < 2 ^ w = omega arith in r)
              (λ (is : next ≡ high w b). let r : next < 2 ^ w = omega (arith, top, pos) in r) later.one;
          others_are_set = tail_is_set w b after apart set;
          rest_is_set = h.rest_is_set;
          parts = run_grows w (InEither w first second) (InEither w others rest) (InEither w after rest) start
              last next b hb
              (λ x. (
                (λ k. (either_first w b after rest x).0 (subst (λ (l : List Network). InEither w l rest x) e k)),
                (λ k. subst (λ (l : List Network). InEither w l rest x) (sym e) ((either_first w b after rest x).1 k)),
              ))
              (h.from b.address here) near later h.parts;
          from = λ x k. h.from x (subst (λ (l : List Network). InEither w l rest x) (sym e)
              ((either_first w b after rest x).1 (inr k)));
        }

  pub grows_by_second : (first second : List Network) (start last next : ℕ) (b : Network) (others rest : List Network)
      → IsGrowing w first second start last others rest
      → b.address ≤ last + 1 → IsLater last (high w b) next → (after : List Network) → rest ≡ b ∷ after
      → IsGrowing w first second start next others after
  grows_by_second first second start last next b others rest h near later after e =
      growing_swaps w second first start next after others
      (grows_by_first second first start last next b rest others (growing_swaps w first second start last others rest h)
      near later after e)

  behind_end : (last : ℕ) (list : List Network) → IsAddressSet w list → EndsAt w last list → (x : ℕ) → InUnion w list x
      → last + 1 < x
  behind_end last [] h e x c = absurd (union_nil w x c)
  behind_end last (b ∷ bs) h e x c = let l = union_from w b bs apart h x c in omega arith

  pub growing_ends : (first second : List Network) (start last : ℕ) (others rest : List Network)
      → IsGrowing w first second start last others rest
      → EndsAt w last others → EndsAt w last rest → IsRun w first second start last others rest
  growing_ends first second start last others rest h e f = record {
    grown = h;
    behind = λ x k. ⊎_elim (λ (c : InUnion w others x). behind_end last others h.others_are_set e x c)
        (λ (c : InUnion w rest x). behind_end last rest h.rest_is_set f x c) k;
  }

-- ---- the blocks of the union are those of its first run, followed by the others

-- a network of the union lies in the run, or after it
on_one_side : (w : ℕ) (S Q : ℕ → Type 0) (start last : ℕ) → ((x : ℕ) → S x ↔ (FromTo start last x ⊎ Q x))
    → ((x : ℕ) → Q x → last + 1 < x)
    → (n : Network) → IsNetwork w n → LiesIn w S n → LiesIn w (FromTo start last) n ⊎ LiesIn w Q n
on_one_side w S Q start last parts behind n nn lies =
    let ends = has_ends w n nn in
    let a : ℕ = low w n in
    let not_at : S (last + 1) → ⊥ = λ s. ⊎_elim
    (λ (f : FromTo start last (last + 1)). let z = f.1 in let r : ⊥ = omega arith in r)
    (λ (q : Q (last + 1)). let z = behind (last + 1) q in let r : ⊥ = omega arith in r) ((parts (last + 1)).0 s) in
    ⊎_elim
    (λ (f : FromTo start last a). inl (λ x m. ⊎_elim
    (λ (g : FromTo start last x). g)
    (λ (q : Q x).
    let z = behind x q in
    let i = within_member w n x m in
    let to = f.1 in
    let top = i.1 in
    let inside : Member w n (last + 1) = member_within w n nn (last + 1) (omega arith) (omega arith) in
    let r : FromTo start last x = absurd (not_at (lies (last + 1) inside)) in r)
    ((parts x).0 (lies x m))))
    (λ (q : Q a). inr (λ x m.
    let z = behind a q in
    let i = within_member w n x m in
    let from = i.0 in
    ⊎_elim
    (λ (g : FromTo start last x). let to = g.1 in let r : Q x = absurd (omega arith) in r)
    (λ (k : Q x). k) ((parts x).0 (lies x m))))
    ((parts a).0 (lies a ends.low_is_member))

pub run_and_rest : (w : ℕ) (first second : List Network) (start last : ℕ) (others rest blocks : List Network)
    → IsRun w first second start last others rest
    → IsLeastList w (FromTo start last) blocks → either_blocks w first second ≡ blocks ++ either_blocks w others rest
run_and_rest w first second start last others rest blocks h k =
    least_unique w (InEither w first second) (either_blocks w first second) (blocks ++ either_blocks w others rest)
    (either_is_least w first second)
    (least_of_two w (InEither w first second) (FromTo start last) (InEither w others rest) blocks
    (either_blocks w others rest) h.grown.parts
    (λ x y f q. let to = f.1 in let z = h.behind y q in omega arith)
    (on_one_side w (InEither w first second) (InEither w others rest) start last h.grown.parts h.behind)
    k (either_is_least w others rest))

pub either_none : (w : ℕ) (first second : List Network) → first ≡ [] → second ≡ [] → either_blocks w first second ≡ []
either_none w first second e f =
    ap (λ l. either_blocks w l second) e ∙ ap (λ l. either_blocks w [] l) f
    ∙ least_unique w (InEither w [] []) (either_blocks w [] []) [] (either_is_least w [] [])
    (least_of_none w (InEither w [] [])
    (λ x o. ⊎_elim (λ (c : InUnion w [] x). union_nil w x c) (λ (c : InUnion w [] x). union_nil w x c) o))

-- a range of addresses has a block
pub range_has_block : (w start last : ℕ) (blocks : List Network) → RangeIsShortest → start ≤ last → last < 2 ^ w
    → IsLeastList w (FromTo start last) blocks → blocks ≡ [] → ⊥
range_has_block w start last blocks law le fits h e =
    union_nil w start (subst (λ (l : List Network). InUnion w l start) e
    (((law w start last blocks fits h).addresses start).1 (omega arith, le)))

-- ---- the steps of the iterator

pub goes_within : (w : ℕ) (run left rest : List Network) (b : Network) → AggregateIsApart → IsAddressSet w (run ++ rest)
    → run ≡ b ∷ left → IsAddressSet w (left ++ rest)
goes_within w run left rest b apart h e =
    tail_is_set w b (left ++ rest) apart (subst (IsAddressSet w) (ap (λ t. t ++ rest) e) h)

-- the current run is at its end, and the first block of the next run of the two sets is taken
module _ (w : ℕ) {X : Type 0} (pair : X → Network) (first second others rest now run : List Network) (start last : ℕ)
    (next : Option (List Network)) (after : List Network)
    (apart : AggregateIsApart) (shortest : RangeIsShortest) (is : run ++ either_blocks w first second ≡ now)
    (none : run ≡ [])
    (set : IsAddressSet w (run ++ either_blocks w first second)) (h : IsRun w first second start last others rest)
    (range : MatchOption next (last < start)
    (λ blocks. (start ≤ last) × IsLeastList w (FromTo start last) blocks)) where
  abbrev pub Left : List Network
  Left = after ++ either_blocks w others rest

  abbrev Taken : Option X → Type 0
  Taken result = MatchOption result ((at_hand next ≡ []) × (after ≡ [])) (λ b. at_hand next ≡ pair b ∷ after)

  blocks_are : (n : Option (List Network)) → MatchOption n (last < start) (λ blocks. (start ≤ last)
      × IsLeastList w (FromTo start last) blocks) → IsLeastList w (FromTo start last) (at_hand n)
  blocks_are None l = let le = h.grown.ordered in absurd (omega arith)
  blocks_are (Some blocks) m = m.1

  splits : now ≡ at_hand next ++ either_blocks w others rest
  splits =
      sym is ∙ ap (λ t. t ++ either_blocks w first second) none
      ∙ run_and_rest w first second start last others rest (at_hand next) h (blocks_are next range)

  not_empty : at_hand next ≡ [] → ⊥
  not_empty = range_has_block w start last (at_hand next) shortest h.grown.ordered h.grown.fits (blocks_are next range)

  one_taken : (b : X) → at_hand next ≡ pair b ∷ after → now ≡ pair b ∷ Left
  one_taken b e = splits ∙ ap (λ t. t ++ either_blocks w others rest) e

  pub next_is_set : (result : Option X) → Taken result → IsAddressSet w Left
  next_is_set None t = absurd (not_empty t.0)
  next_is_set (Some b) t = tail_is_set w (pair b) Left apart (subst (IsAddressSet w) (is ∙ one_taken b t) set)

  pub next_steps : (result : Option X) → Taken result
      → MatchOption result ((now ≡ []) × (Left ≡ [])) (λ b. now ≡ pair b ∷ Left)
  next_steps None t = absurd (not_empty t.0)
  next_steps (Some b) t = one_taken b t

  pub next_goes : (result : Option X) → Taken result → MakesProgress {S = List Network} {A = X} (λ _. Unit {0})
      (item_count {S = List Network} {A = Network} (λ left. left)) now result Left
  next_goes None t = absurd (not_empty t.0)
  next_goes (Some b) t =
      let l : length now ≡ suc (length Left) = ap length (one_taken b t) in
      record { on = λ _. (tt, tt, omega (arith, l)); keeps = tt; rests = λ _. tt }

-- a run of one block
pub one_is_range : (w : ℕ) (b : Network) (last : ℕ) → IsCidrBlock w b → last ≡ high w b
    → (low w b ≤ last) × IsLeastList w (FromTo (low w b) last) (b ∷ [])
one_is_range w b last hb e =
    let pos = size_pos w b.prefix in (
      omega arith,
      least_of_same w (Member w b) (FromTo (low w b) last) (b ∷ [])
          (λ x. let m = one_block w b hb x in (
            (λ i. subst (λ (k : ℕ). FromTo (low w b) k x) (sym e) (m.0 i)),
            (λ f. m.1 (subst (λ (k : ℕ). FromTo (low w b) k x) e f)),
          ))
          (least_of_one w b hb.network hb.block),
    )

-- the blocks of the range from `a`, the first address of a run, are those of the run
pub range_of : (w a start last : ℕ) (next : Option (List Network)) → a ≡ start
    → MatchOption next (last < a) (λ blocks. (a ≤ last) × IsLeastList w (FromTo a last) blocks)
    → MatchOption next (last < start) (λ blocks. (start ≤ last) × IsLeastList w (FromTo start last) blocks)
range_of w a start last next e h =
    subst (λ (k : ℕ). MatchOption next (last < k) (λ blocks. (k ≤ last) × IsLeastList w (FromTo k last) blocks)) e h

-- ---- the block that begins first

first_swaps : (first second : List Network) (b : Network) (others rest : List Network)
    → IsFirst first second b others rest → IsFirst second first b rest others
first_swaps first second b others rest is = record {
  one = ⊎_elim (λ (p : (first ≡ b ∷ others) × (second ≡ rest)). inr (p.1, p.0))
      (λ (p : (first ≡ others) × (second ≡ b ∷ rest)). inl (p.1, p.0)) is.one;
  lowest = λ c more k. is.lowest c more (⊎_elim (λ (e : second ≡ c ∷ more). inr e) (λ (e : first ≡ c ∷ more). inl e) k);
}

-- the block that begins first, of two lists with a first block each
pub first_begins : (first second others rest : List Network) (a b : Network) → first ≡ a ∷ others → second ≡ b ∷ rest
    → a.address ≤ b.address → IsFirst first second a others second
first_begins first second others rest a b e f h = record {
  one = inl (e, refl);
  lowest = λ c more k. ⊎_elim
      (λ (p : first ≡ c ∷ more). let is : a ≡ c = cc in omega (arith, ap (λ (n : Network). n.address) is))
      (λ (p : second ≡ c ∷ more). let is : b ≡ c = cc in omega (arith, ap (λ (n : Network). n.address) is))
      k;
}

pub second_begins : (first second others rest : List Network) (a b : Network) → first ≡ a ∷ others → second ≡ b ∷ rest
    → b.address ≤ a.address → IsFirst first second b first rest
second_begins first second others rest a b e f h =
    first_swaps second first b rest first (first_begins second first rest others b a f e h)
