-- Sets made from ranges.
use Rattle.ipnetwork_sets.proofs.Words.{◌≡◌, ◌↔◌, ℕ, ◌+◌, ◌^◌, ◌<◌, ◌≤◌, ◌⊎◌, inl, inr, sym, ap, subst, ◌∙◌, arith, ⊎_elim, List, [], ◌∷◌, ◌++◌, length, get_or, take, drop, map, Result, Ok, Err, true≢false, append-nil, map-append, length-append, length-map, length-take, drop_more, take_more, take_all, take-append-le, min-le_right, IsErr, Contains, Contains-append_left, Contains-append_right, Contains-append_cases, Network, InUnion, IsAggregate, IsLeastList, RangeIsShortest, FromTo, contains_cons, contains_head, contains_nil, least_of_same, least_of_none, least_unique, InRanges, AreBlocksOf, AddsLeastList, AddsFirstOfLeastList, union_append}
use Rattle.std.proofs.lemmas.List.{append_assoc}
use Rattle.std.specs.Result.{IfOk}

abbrev Range : Type 0
Range = ℕ × ℕ

-- the numbers of the two ends of a range
abbrev pub numbers : {A : Type 0} → (A → ℕ) → A × A → ℕ × ℕ
numbers number r = (number r.0, number r.1)

-- no blocks are added for a range without addresses
pub adds_none : (w first last : ℕ) (items : List Network) → last < first
    → AddsLeastList w (FromTo first last) items items
adds_none w first last items l =
    ([], least_of_none w (FromTo first last) (λ x f. let a = f.0 in let b = f.1 in omega arith), sym (append-nil items))

-- all blocks have been added
pub adds_all : (w first last : ℕ) (before items left blocks : List Network) → IsLeastList w (FromTo first last) blocks
    → items ++ left ≡ before ++ blocks → left ≡ []
    → AddsLeastList w (FromTo first last) before items
adds_all w first last before items left blocks h e none =
    (blocks, h, sym (append-nil items) ∙ ap (λ t. items ++ t) (sym none) ∙ e)

-- one more block has been added
pub adds_one : {X : Type 0} (pair : X → Network) (items more : List X) (block : X) (left rest blocks : List Network)
    → more ≡ items ++ block ∷ [] → left ≡ pair block ∷ rest
    → map pair items ++ left ≡ blocks → map pair more ++ rest ≡ blocks
adds_one pair items more block left rest blocks added steps h =
    ap (λ t. map pair t ++ rest) added ∙ ap (λ t. t ++ rest) (map-append pair items (block ∷ []))
    ∙ append_assoc (map pair items) (pair block ∷ []) rest
    ∙ ap (λ t. map pair items ++ t) (sym steps) ∙ h

-- of all blocks, some were appended to `before`, and the others are left
abbrev pub IsPushed : List Network → List Network → List Network → List Network → Type 0
IsPushed before items all left = (some : List Network) × (all ≡ some ++ left) × (items ≡ before ++ some)

pub pushing_goes_on : {X : Type 0} (pair : X → Network) (items more : List X) (block : X)
    (before all left rest : List Network) → more ≡ items ++ block ∷ [] → left ≡ pair block ∷ rest
    → IsPushed before (map pair items) all left → IsPushed before (map pair more) all rest
pushing_goes_on pair items more block before all left rest added steps h = (
  h.0 ++ pair block ∷ [],
  h.1 ∙ ap (λ t. h.0 ++ t) steps ∙ sym (append_assoc h.0 (pair block ∷ []) rest),
  ap (map pair) added ∙ map-append pair items (block ∷ []) ∙ ap (λ t. t ++ pair block ∷ []) h.2
      ∙ append_assoc before h.0 (pair block ∷ []),
)

-- the blocks appended so far are the first blocks of the least list
pub adds_first : (w first last : ℕ) (before items all left : List Network) → IsLeastList w (FromTo first last) all
    → IsPushed before items all left
    → AddsFirstOfLeastList w (FromTo first last) before items
adds_first w first last before items all left h p = (p.0, left, subst (IsLeastList w (FromTo first last)) p.1 h, p.2)

pub adds_first_of_none : (w first last : ℕ) (items : List Network) → last < first
    → AddsFirstOfLeastList w (FromTo first last) items items
adds_first_of_none w first last items l = (
  [],
  [],
  least_of_none w (FromTo first last) (λ x f. let a = f.0 in let b = f.1 in omega arith),
  sym (append-nil items),
)

-- appending one more item leaves the front unchanged
pub front_stays : {X : Type 0} (before items more : List X) (block : X) → more ≡ items ++ block ∷ []
    → take (length before) items ≡ before → take (length before) more ≡ before
front_stays before items more block added h =
    let short : length before ≤ length items = subst (λ n. n ≤ length items) (sym (length-take (length before) items)
    ∙ ap length h) (min-le_right (length before) (length items)) in
    ap (take (length before)) added ∙ take-append-le (length before) items (block ∷ []) short ∙ h

-- after an error, the clause for success holds trivially
pub adds_in_vain : {T E : Type 0} (result : Result T E) (P : T → Type 0) → IsErr result → IfOk result P
adds_in_vain (Ok value) P e = absurd (true≢false (sym e))
adds_in_vain (Err error) P e = tt

ranges_push : (rs : List Range) (r : Range) (x : ℕ) → InRanges (rs ++ r ∷ []) x ↔ (InRanges rs x ⊎ FromTo r.0 r.1 x)
ranges_push rs r x = (
  (λ c. ⊎_elim (λ (d : Contains rs c.0). inl (c.0, d, c.2))
      (λ (d : Contains (r ∷ []) c.0). ⊎_elim
      (λ (e : r ≡ c.0). inr (subst (λ (s : Range). FromTo s.0 s.1 x) (sym e) c.2))
      (λ (n : Contains [] c.0). absurd (contains_nil c.0 n))
      (contains_cons r [] c.0 d))
      (Contains-append_cases rs (r ∷ []) c.0 c.1)),
  (λ p. ⊎_elim
      (λ (c : InRanges rs x). (c.0, Contains-append_left rs (r ∷ []) c.0 c.1, c.2))
      (λ (f : FromTo r.0 r.1 x). (r, Contains-append_right rs (r ∷ []) r (contains_head r []), f)) p),
)

-- the networks have the addresses of the ranges
abbrev pub HasRanges : ℕ → List Network → List Range → Type 0
HasRanges w ns rs = (x : ℕ) → InUnion w ns x ↔ InRanges rs x

pub has_none : (w : ℕ) (ns : List Network) → ns ≡ [] → HasRanges w ns []
has_none w ns e x = (
  (λ c. absurd (contains_nil c.0 (subst (λ (l : List Network). Contains l c.0) e c.1))),
  (λ c. absurd (contains_nil c.0 c.1)),
)

pub has_one_more : (w : ℕ) (ns more : List Network) (rs : List Range) (i : ℕ) (r : Range) → RangeIsShortest
    → HasRanges w ns (take i rs) → i < length rs → r ≡ get_or rs i r
    → r.1 < 2 ^ w → AddsLeastList w (FromTo r.0 r.1) ns more → HasRanges w more (take (i + 1) rs)
has_one_more w ns more rs i r law h l is fits adds x =
    let bs : List Network = adds.0 in
    let longer : take (i + 1) rs ≡ take i rs ++ r ∷ [] = take_more rs i r l ∙ ap (λ s. take i rs ++ s ∷ []) (sym is) in
    let in_blocks = (law w r.0 r.1 bs fits adds.1).addresses x in
    let split = union_append w ns bs x in
    let push = ranges_push (take i rs) r x in (
      (λ c. subst (λ (t : List Range). InRanges t x) (sym longer) (push.1 (⊎_elim
          (λ (d : InUnion w ns x). inl ((h x).0 d))
          (λ (d : InUnion w bs x). inr (in_blocks.0 d))
          (split.0 (subst (λ (t : List Network). InUnion w t x) adds.2 c))))),
      (λ c. subst (λ (t : List Network). InUnion w t x) (sym adds.2) (split.1 (⊎_elim
          (λ (d : InRanges (take i rs) x). inl ((h x).1 d))
          (λ (d : FromTo r.0 r.1 x). inr (in_blocks.1 d))
          (push.0 (subst (λ (t : List Range). InRanges t x) longer c))))),
    )

pub set_of_ranges : (w : ℕ) (ns set : List Network) (rs : List Range) (i : ℕ) → HasRanges w ns (take i rs)
    → length rs ≤ i → IsAggregate w ns set → IsLeastList w (InRanges rs) set
set_of_ranges w ns set rs i h l k =
    least_of_same w (InUnion w ns) (InRanges rs) set (subst (λ (t : List Range). HasRanges w ns t) (take_all i rs l) h)
    k

-- of the blocks of all ranges, the list has `count`, and the others are those of the ranges left
abbrev pub IsOnTheWay : ℕ → List Range → List Range → ℕ → Type 0
IsOnTheWay w rs left count = (blocks : List Network) → AreBlocksOf w rs blocks
    → (others : List Network) × AreBlocksOf w left others × (length blocks ≡ count + length others)

pub way_starts : (w : ℕ) (rs : List Range) (count : ℕ) → count ≡ 0 → IsOnTheWay w rs (drop 0 rs) count
way_starts w rs count none blocks h = (blocks, h, omega (arith, none))

pub way_goes_on : {X : Type 0} (pair : X → Network) (w i : ℕ) (rs : List Range) (r : Range) (items more : List X)
    (count next : ℕ) → i < length rs → r ≡ get_or rs i r
    → IsOnTheWay w rs (drop i rs) count → AddsLeastList w (FromTo r.0 r.1) (map pair items) (map pair more)
    → count ≡ length items → next ≡ length more
    → IsOnTheWay w rs (drop (i + 1) rs) next
way_goes_on pair w i rs r items more count next l is h adds was now blocks k =
    let way = h blocks k in
    let step : drop i rs ≡ r ∷ drop (i + 1) rs = drop_more rs i r l ∙ ap (λ s. s ∷ drop (i + 1) rs) (sym is) in
    let parts : AreBlocksOf w (r ∷ drop (i + 1) rs) way.0 =
    subst (λ (t : List Range). AreBlocksOf w t way.0) step way.1 in
    let same : length adds.0 ≡ length parts.0 =
    ap length (least_unique w (FromTo r.0 r.1) adds.0 parts.0 adds.1 parts.2) in
    let grown : length (map pair more) ≡ length (map pair items ++ adds.0) = ap length adds.2 in
    let split : length way.0 ≡ length (parts.0 ++ parts.1) = ap length parts.4 in (
      parts.1,
      parts.3,
      omega (
        arith,
        way.2,
        same,
        grown,
        split,
        was,
        now,
        length-append (map pair items) adds.0,
        length-append parts.0 parts.1,
        length-map items pair,
        length-map more pair,
      ),
    )

-- a list without room for the blocks of one more range has no room for the blocks of all ranges
pub way_had_no_room : (w i : ℕ) (rs : List Range) (r : Range) (room capacity count : ℕ) → i < length rs
    → r ≡ get_or rs i r → IsOnTheWay w rs (drop i rs) count → room ≤ capacity
    → ((blocks : List Network) → IsLeastList w (FromTo r.0 r.1) blocks → capacity < count + length blocks)
    → (blocks : List Network) → AreBlocksOf w rs blocks → room < length blocks
way_had_no_room w i rs r room capacity count l is h le full blocks k =
    let way = h blocks k in
    let step : drop i rs ≡ r ∷ drop (i + 1) rs = drop_more rs i r l ∙ ap (λ s. s ∷ drop (i + 1) rs) (sym is) in
    let parts : AreBlocksOf w (r ∷ drop (i + 1) rs) way.0 =
    subst (λ (t : List Range). AreBlocksOf w t way.0) step way.1 in
    let split : length way.0 ≡ length (parts.0 ++ parts.1) = ap length parts.4 in
    omega (arith, way.2, le, full parts.0 parts.2, split, length-append parts.0 parts.1)
