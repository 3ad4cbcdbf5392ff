-- The blocks that are open at once are nested, so at most one of them has each prefix length.
use Rattle.ipnetwork_index.proofs.Words.{◌≡◌, ℕ, zero, suc, ◌+◌, ◌-◌, ◌<◌, ◌≤◌, List, [], ◌∷◌, ◌++◌, length, get_or, arith, sym, ap, subst, ◌∙◌, ⊎_elim, Some, slice_get, length-append, unwrap_or, cases_lt, get_or_append_left, get_or_push, slice_get-get_or, Network, IsCidrBlock, IsNetworkBefore, Member, low, high, size_pos, has_ends, within_member, member_within, subnet_from, shares_address, AreListed, AreNested, AreOpen, IsLongerWithin, LastEndsFrom}

-- what is read at one place is always the same
pub same_item : {A : Type 0} (xs : List A) (i j : ℕ) (a b : A) → i ≡ j → slice_get xs i ≡ Some a
    → slice_get xs j ≡ Some b → a ≡ b
same_item xs i j a b e g h =
    ap (λ o. unwrap_or o a) (sym g ∙ ap (slice_get xs) e ∙ h)

-- a block lies in any block before it that has its first number
pub within_before : (w : ℕ) (d e : Network) → IsCidrBlock w d → IsCidrBlock w e
    → IsNetworkBefore d e → low w e ≤ high w d → IsLongerWithin w d e
within_before w d e hd he before to =
    let from : low w d ≤ low w e = ⊎_elim
    (λ (less : d.address < e.address). omega (arith, hd.block, he.block))
    (λ (tie : (d.address ≡ e.address) × (d.prefix < e.prefix)).
    omega (arith, hd.block, he.block, tie.0))
    before in
    let holds : Member w d (low w e)
    = member_within w d hd.network (low w e) from (omega (arith, size_pos w d.prefix, to)) in
    let longer : d.prefix < e.prefix = ⊎_elim
    (λ (less : d.address < e.address). ⊎_elim
    (λ (more : d.prefix < e.prefix). more)
    (λ (le : e.prefix ≤ d.prefix).
    let m = within_member w e d.address
    (shares_address w d e (low w e) le hd.network he.network holds
    (has_ends w e he.network).low_is_member) in
    absurd (omega (arith, less, m.0, he.block)))
    (cases_lt d.prefix e.prefix))
    (λ (tie : (d.address ≡ e.address) × (d.prefix < e.prefix)). tie.1)
    before in
    record {
      longer = longer;
      within = subnet_from w e d he.network (omega (arith, longer))
          (subst (λ (x : ℕ). Member w d x) (sym he.block) holds);
    }

further_in : (w : ℕ) (a b c : Network) → IsLongerWithin w a b → IsLongerWithin w b c
    → IsLongerWithin w a c
further_in w a b c h k = record {
  longer = omega (arith, h.longer, k.longer);
  within = λ x m. h.within x (k.within x m);
}

-- ---- one more block is opened

module _ {V : Type 0} (w : ℕ) (es : List (Network × V)) (listed : AreListed w es) (count x : ℕ)
    (opened : List ℕ) (e : Network × V) (h : AreOpen w es count x opened)
    (g : slice_get es count ≡ Some e) (ends : LastEndsFrom w es (low w e.0) opened) where
  -- the new block lies in the last open block
  in_last : (k : ℕ) (d : Network × V) → k + 1 ≡ length opened
      → slice_get es (get_or opened k 0) ≡ Some d → IsLongerWithin w d.0 e.0
  in_last k d last q =
      let early : get_or opened k 0 < count = h.each k (omega (arith, last)) in
      within_before w d.0 e.0 (listed.blocks (get_or opened k 0) d q) (listed.blocks count e g)
      (listed.ascending (get_or opened k 0) count d e q g early) (ends k d last q)

  -- the new block lies in each open block
  in_each : (k : ℕ) (d : Network × V) → k < length opened
      → slice_get es (get_or opened k 0) ≡ Some d → IsLongerWithin w d.0 e.0
  in_each k d own q =
      let last : ℕ = length opened - 1 in
      ⊎_elim
      (λ (before : k < last).
      let there : last < length opened = omega arith in
      let early = h.each last there in
      let all = h.within in
      let f : Network × V = get_or es (get_or opened last 0) e in
      let at : slice_get es (get_or opened last 0) ≡ Some f
      = slice_get-get_or es (get_or opened last 0) e (omega arith) in
      further_in w d.0 f.0 e.0 (h.nested k last d f before there q at)
      (in_last last f (omega arith) at))
      (λ (here : last ≤ k). in_last k d (omega arith) q)
      (cases_lt k last)

  pub nested_more : AreNested w es (opened ++ count ∷ [])
  nested_more k m d f l n q r =
      let size : length (opened ++ count ∷ []) ≡ length opened + 1
      = length-append opened (count ∷ []) in
      let left : (i : ℕ) → i < length opened → get_or (opened ++ count ∷ []) i 0 ≡ get_or opened i 0
      = λ i early. get_or_append_left opened (count ∷ []) 0 i early in
      let own : k < length opened = omega arith in
      let first : slice_get es (get_or opened k 0) ≡ Some d
      = ap (slice_get es) (sym (left k own)) ∙ q in
      ⊎_elim
      (λ (early : m < length opened).
      h.nested k m d f l early first (ap (slice_get es) (sym (left m early)) ∙ r))
      (λ (here : length opened ≤ m).
      let is : get_or (opened ++ count ∷ []) m 0 ≡ count
      = get_or_push opened count 0 m (omega arith) in
      let one : e ≡ f
      = same_item es count (get_or (opened ++ count ∷ []) m 0) e f (sym is) g r in
      subst (λ (b : Network × V). IsLongerWithin w d.0 b.0) one (in_each k d own first))
      (cases_lt m (length opened))

-- ---- how many blocks are open

-- the prefix lengths of the open blocks ascend, beginning with 0 or more
rises : {V : Type 0} (w : ℕ) (es : List (Network × V)) (count x : ℕ) (opened : List ℕ)
    → AreOpen w es count x opened → (k : ℕ) (e : Network × V) → k < length opened
    → slice_get es (get_or opened k 0) ≡ Some e → k ≤ e.0.prefix
rises w es count x opened h zero e own q = omega arith
rises {V} w es count x opened h (suc k) e own q =
    let early = h.each k (omega arith) in
    let all = h.within in
    let d : Network × V = get_or es (get_or opened k 0) e in
    let at : slice_get es (get_or opened k 0) ≡ Some d
    = slice_get-get_or es (get_or opened k 0) e (omega arith) in
    let less = (h.nested k (suc k) d e (omega arith) own at q).longer in
    let more = rises w es count x opened h k d (omega arith) at in
    omega arith

-- there are at most as many open blocks as prefix lengths
pub few_open : {V : Type 0} (w : ℕ) (es : List (Network × V)) (count x : ℕ) (opened : List ℕ)
    → AreListed w es → AreOpen w es count x opened → length opened ≤ w + 1
few_open w [] count x opened listed h = ⊎_elim
    (λ (some : 0 < length opened).
    let early = h.each 0 some in
    let all = h.within in
    absurd (omega arith))
    (λ (none : length opened ≤ 0). omega arith)
    (cases_lt 0 (length opened))
few_open {V} w (b ∷ bs) count x opened listed h = ⊎_elim
    (λ (some : 0 < length opened).
    let last : ℕ = length opened - 1 in
    let early = h.each last (omega arith) in
    let all = h.within in
    let e : Network × V = get_or (b ∷ bs) (get_or opened last 0) b in
    let at : slice_get (b ∷ bs) (get_or opened last 0) ≡ Some e
    = slice_get-get_or (b ∷ bs) (get_or opened last 0) b (omega arith) in
    let most = (listed.blocks (get_or opened last 0) e at).network.prefix_fits in
    let least = rises w (b ∷ bs) count x opened h last e (omega arith) at in
    omega arith)
    (λ (none : length opened ≤ 0). omega arith)
    (cases_lt 0 (length opened))

-- there is room to open the next block
pub room_for_next : {V : Type 0} (w : ℕ) (es : List (Network × V)) (count x : ℕ) (opened : List ℕ)
    → AreListed w es → AreOpen w es (count + 1) x (opened ++ count ∷ []) → w ≤ 128
    → length opened < 129
room_for_next w es count x opened listed h bits =
    let few = few_open w es (count + 1) x (opened ++ count ∷ []) listed h in
    let size : length (opened ++ count ∷ []) ≡ length opened + 1
    = length-append opened (count ∷ []) in
    omega arith
