-- The used pieces of a pool, taken one block of the pool after another.
use Rattle.allotting.proofs.Words.{◌≡◌, ◌↔◌, ◌⊎◌, ℕ, ◌+◌, ◌^◌, ◌<◌, ◌≤◌, inl, inr, sym, refl, ap, subst, ◌∙◌, arith, ⊎_elim, cases_lt, List, [], ◌∷◌, ◌++◌, Option, None, Some, length, length-append, length-map, map, get_or, get_or-map, MatchOption, append_assoc, at_hand, counts_more, min, min-eq_left, pow_mono, All, All-contains, All-push, AllPairs, AllPairs-from_increasing, Contains, Contains-append_cases, Contains-append_left, Contains-append_right, Contains-get_or, get_or_default, map-append, take, take_all, take_more, contains_cons, contains_head, contains_nil, contains_tail, pairs_append, pairs_head, pairs_tail, Network, IsCidrBlock, Member, Subnet, block_size, high, low, members, has_ends, high_fits, within_member, own_address, size_pos, lists_members, length-count_up, InUnion, InBoth, IsLeastList, IsMaximalIn, IsShortest, IsAddressSet, AggregateHasNetworks, AggregateIsApart, HasCount, total, IsPast, TakesWithin, AreUsed, IsUsedIn, union_append, union_cons, union_nil}
use Rattle.allotting.proofs.Runs.{Apart}

-- ---- blocks that are apart

module _ (w : ℕ) where
  abbrev AreBlocks : List Network → Type 0
  AreBlocks bs = (c : Network) → Contains bs c → IsCidrBlock w c

  begins : (b : Network) → IsCidrBlock w b → b.address ≤ high w b
  begins b block =
      let m = within_member w b (high w b) (has_ends w b block.network).high_is_member in
      let e = block.block in
      omega (arith, m.0, e)

  -- an address of a block is from its first to its last
  from_first : (b : Network) (x : ℕ) → IsCidrBlock w b → Member w b x → b.address ≤ x
  from_first b x block m =
      let i = within_member w b x m in
      let e = block.block in
      omega (arith, i.0, e)

  to_last : (b : Network) (x : ℕ) → Member w b x → x ≤ high w b
  to_last b x m = let i = within_member w b x m in omega (arith, i.1)

  -- blocks that are apart share no address
  no_shared : (b c : Network) (x : ℕ) → IsCidrBlock w c → Apart w b c → Member w b x → ¬ (Member w c x)
  no_shared b c x block apart m n =
      let l = to_last b x m in
      let f = from_first c x block n in
      omega (arith, l, f, apart)

  -- a part of a list that is apart
  pub apart_parts : (bs cs : List Network) → AllPairs (Apart w) (bs ++ cs)
      → AllPairs (Apart w) bs × AllPairs (Apart w) cs
      × ((b c : Network) → Contains bs b → Contains cs c → Apart w b c)
  apart_parts [] cs h = (
    (λ i j d l m. absurd (omega (arith, l, m))),
    h,
    (λ b c k n. absurd (contains_nil b k)),
  )
  apart_parts (a ∷ bs) cs h =
      let r = apart_parts bs cs (pairs_tail (Apart w) a (bs ++ cs) h) in (
        pairs_append (Apart w) (a ∷ []) bs (λ i j d l m. absurd (omega (arith, l, m))) r.0
            (λ b c k n. ⊎_elim
            (λ (e : a ≡ b). subst (λ (x : Network). Apart w x c) e
            (pairs_head (Apart w) a (bs ++ cs) h c (Contains-append_left bs cs c n)))
            (λ (z : Contains [] b). absurd (contains_nil b z)) (contains_cons a [] b k)),
        r.1,
        (λ b c k n. ⊎_elim
            (λ (e : a ≡ b). subst (λ (x : Network). Apart w x c) e
            (pairs_head (Apart w) a (bs ++ cs) h c (Contains-append_right bs cs c n)))
            (λ (z : Contains bs b). r.2 b c z n) (contains_cons a bs b k)),
      )

  -- blocks from one address up to another have no more addresses together
  pub total_within : (bs : List Network) (from to : ℕ) → AllPairs (Apart w) bs → AreBlocks bs
      → ((c : Network) → Contains bs c → (from ≤ c.address) × (high w c < to)) → from ≤ to → from + total w bs ≤ to
  total_within [] from to apart blocks ends le = omega (arith, le)
  total_within (b ∷ bs) from to apart blocks ends le =
      let own = ends b (contains_head b bs) in
      let block = blocks b (contains_head b bs) in
      let e = block.block in
      let pos = size_pos w b.prefix in
      let next : ℕ = b.address + block_size w b.prefix in
      let rest : next + total w bs ≤ to =
      total_within bs next to (pairs_tail (Apart w) b bs apart) (λ c k. blocks c (contains_tail b bs c k))
      (λ c k. ((let l = pairs_head (Apart w) b bs apart c k in omega (arith, l, e, pos)), (ends c (contains_tail b bs c k)).1))
      (let t = own.1 in omega (arith, t, e, pos)) in
      let f = own.0 in
      omega (arith, rest, f)

  -- their sizes add up to the number of their addresses
  pub apart_count : (bs : List Network) → AllPairs (Apart w) bs → AreBlocks bs → HasCount (InUnion w bs) (total w bs)
  apart_count [] apart blocks = record {
    addresses = [];
    ascending = λ i j d l m. absurd (omega (arith, l, m));
    exactly = λ x. ((λ c. absurd (contains_nil x c)), (λ c. absurd (union_nil w x c)));
    count = refl;
  }
  apart_count (b ∷ bs) apart blocks =
      let block = blocks b (contains_head b bs) in
      let first = lists_members w b block.network in
      let rest = apart_count bs (pairs_tail (Apart w) b bs apart) (λ c k. blocks c (contains_tail b bs c k)) in
      record {
        addresses = members w b ++ rest.addresses;
        ascending = pairs_append (λ x y. x < y) (members w b) rest.addresses
            (AllPairs-from_increasing (members w b) first.ascending) rest.ascending
            (λ x y c d.
            let i = to_last b x (first.each x c) in
            let u = (rest.exactly y).0 d in
            let l = pairs_head (Apart w) b bs apart u.0 u.1 in
            let f = from_first u.0 y (blocks u.0 (contains_tail b bs u.0 u.1)) u.2 in
            omega (arith, i, l, f));
        exactly = λ x. (
          (λ c. (union_cons w b bs x).1 (⊎_elim
              (λ (k : Contains (members w b) x). inl (first.each x k))
              (λ (k : Contains rest.addresses x). inr ((rest.exactly x).0 k))
              (Contains-append_cases (members w b) rest.addresses x c))),
          (λ u. ⊎_elim
              (λ (m : Member w b x). Contains-append_left (members w b) rest.addresses x (first.all x m))
              (λ (c : InUnion w bs x). Contains-append_right (members w b) rest.addresses x ((rest.exactly x).1 c))
              ((union_cons w b bs x).0 u)),
        );
        count =
            let sum : length (members w b ++ rest.addresses) ≡ length (members w b) + length rest.addresses =
            length-append (members w b) rest.addresses in
            omega (arith, sum, length-count_up (low w b) (block_size w b.prefix), rest.count);
      }

count_of_same : (S T : ℕ → Type 0) (n : ℕ) → ((x : ℕ) → S x ↔ T x) → HasCount S n → HasCount T n
count_of_same S T n same h = record {
  addresses = h.addresses;
  ascending = h.ascending;
  exactly = λ x. ((λ c. (same x).0 ((h.exactly x).0 c)), (λ t. (h.exactly x).1 ((same x).1 t)));
  count = h.count;
}

-- the block at an index
abbrev pub block_of : List Network → ℕ → Network
block_of blocks i = get_or blocks i (record { address = 0; prefix = 0 })

-- what an iterator of pieces has returned is the current piece
pub next_at : {X : Type 0} (pair : X → Network) (pieces after : List Network) (next : Option X)
    → MatchOption next ((pieces ≡ []) × (after ≡ [])) (λ x. pieces ≡ pair x ∷ after)
    → pieces ≡ at_hand pair next after
next_at pair pieces after None e = e.0
next_at pair pieces after (Some x) e = e

-- one more piece is taken
pub more_taken : (w : ℕ) (block piece : Network) (before pieces after taken : List Network) (count more : ℕ)
    → before ≡ taken ++ piece ∷ pieces → pieces ≡ after → All (λ one. Subnet w one block) taken → Subnet w piece block
    → count ≡ min (total w taken) (2 ^ 128) → more ≡ min (count + block_size w piece.prefix) (2 ^ 128)
    → (all : List Network) × (before ≡ all ++ after) × All (λ one. Subnet w one block) all
    × (more ≡ min (total w all) (2 ^ 128))
more_taken w block piece before pieces after taken count more e f within sub counted n = (
  taken ++ piece ∷ [],
  e ∙ sym (append_assoc taken (piece ∷ []) pieces) ∙ ap (λ l. (taken ++ piece ∷ []) ++ l) f,
  All-push (λ one. Subnet w one block) taken piece within sub,
  counts_more w count more taken (taken ++ piece ∷ []) piece counted refl n,
)

-- the index of a block
contains_at : (bs : List Network) (b : Network) → Contains bs b → (j : ℕ) × (j < length bs) × (block_of bs j ≡ b)
contains_at bs b c = (c.0, c.1, get_or_default bs c.0 (record { address = 0; prefix = 0 }) b c.1 ∙ c.2)

-- ---- the blocks of a pool in turn

-- the pieces are the used part of the blocks from an index on, and those before it were counted
pub record IsCounting (w : ℕ) (pool used pieces : List Network) (usage : List (Network × ℕ)) (at : ℕ) : Type 0 where
  pub counted : AreUsed w (take at pool) used usage
  pub apart : AllPairs (Apart w) pieces
  pub blocks : (c : Network) → Contains pieces c → IsCidrBlock w c
  pub lies : (c : Network) → Contains pieces c
      → (j : ℕ) × (at ≤ j) × (j < length pool) × Subnet w c (block_of pool j)
  pub used_only : (x : ℕ) → InUnion w pieces x → InUnion w used x
  pub all_used : (j x : ℕ) → at ≤ j → j < length pool → Member w (block_of pool j) x → InUnion w used x
      → InUnion w pieces x

module _ (w : ℕ) (pool used : List Network) (few : w ≤ 128) (apart : AllPairs (Apart w) pool)
    (blocks : (c : Network) → Contains pool c → IsCidrBlock w c) where
  block_at : (j : ℕ) → j < length pool → IsCidrBlock w (block_of pool j)
  block_at j l = blocks (block_of pool j) (Contains-get_or pool j (record { address = 0; prefix = 0 }) l)

  apart_at : (i j : ℕ) → i < j → j < length pool → Apart w (block_of pool i) (block_of pool j)
  apart_at i j l m = apart i j (record { address = 0; prefix = 0 }) l m

  module _ (before after : List Network) (usage : List (Network × ℕ)) (at n : ℕ) (in_pool : at < length pool)
      (h : IsCounting w pool used before usage at) (t : TakesWithin w (block_of pool at) before after n) where
    abbrev b : Network
    b = block_of pool at

    own : IsCidrBlock w b
    own = block_at at in_pool

    apart_all : AllPairs (Apart w) (t.taken ++ after)
    apart_all = subst (AllPairs (Apart w)) t.all h.apart

    parts : AllPairs (Apart w) t.taken × AllPairs (Apart w) after
        × ((c d : Network) → Contains t.taken c → Contains after d → Apart w c d)
    parts = apart_parts w t.taken after apart_all

    left_in : (c : Network) → Contains after c → Contains before c
    left_in c k = subst (λ (l : List Network). Contains l c) (sym t.all) (Contains-append_right t.taken after c k)

    taken_in : (c : Network) → Contains t.taken c → Contains before c
    taken_in c k = subst (λ (l : List Network). Contains l c) (sym t.all) (Contains-append_left t.taken after c k)

    taken_within : (c : Network) → Contains t.taken c → Subnet w c b
    taken_within c k = All-contains (λ piece. Subnet w piece b) t.taken c t.within k

    -- a piece within a block of a later index begins after this one
    further : (c : Network) (j : ℕ) → IsCidrBlock w c → at < j → j < length pool → Subnet w c (block_of pool j)
        → high w b < c.address
    further c j block l m sub =
        let far = apart_at at j l m in
        let f = from_first w (block_of pool j) c.address (block_at j m) (sub c.address (own_address w c block.network)) in
        omega (arith, far, f)

    -- the first piece that is left is after this block, and so are the others
    first_further : (d : Network) (others : List Network) → after ≡ d ∷ others → high w b < d.address
    first_further d others e =
        let in_after : Contains after d = subst (λ (l : List Network). Contains l d) (sym e) (contains_head d others) in
        let k = h.lies d (left_in d in_after) in
        let past : ¬ (Subnet w d b) = subst (IsPast w b) e t.past in
        ⊎_elim (λ (l : at < k.0). further d k.0 (h.blocks d (left_in d in_after)) l k.2 k.3)
        (λ (l : k.0 ≤ at).
        let same : k.0 ≡ at = (let m = k.1 in omega (arith, l, m)) in
        let r : high w b < d.address = absurd (past (subst (λ (j : ℕ). Subnet w d (block_of pool j)) same k.3)) in r)
        (cases_lt at k.0)

    all_further : (c : Network) → Contains after c → high w b < c.address
    all_further c k = go after refl
      where
        go : (l : List Network) → after ≡ l → high w b < c.address
        go [] e = absurd (contains_nil c (subst (λ (l : List Network). Contains l c) e k))
        go (d ∷ others) e =
            let first = first_further d others e in
            let in_after : Contains after d = subst (λ (l : List Network). Contains l d) (sym e) (contains_head d others) in
            ⊎_elim (λ (q : d ≡ c). subst (λ (x : Network). high w b < x.address) q first)
            (λ (o : Contains others c).
            let far = pairs_head (Apart w) d others (subst (AllPairs (Apart w)) e parts.1) c o in
            let f = begins w d (h.blocks d (left_in d in_after)) in
            omega (arith, first, far, f))
            (contains_cons d others c (subst (λ (l : List Network). Contains l c) e k))

    later : (c : Network) → Contains after c
        → (j : ℕ) × (at + 1 ≤ j) × (j < length pool) × Subnet w c (block_of pool j)
    later c k =
        let i = h.lies c (left_in c k) in
        let block = h.blocks c (left_in c k) in
        ⊎_elim (λ (l : at < i.0). (i.0, (omega (arith, l)), i.2, i.3))
        (λ (l : i.0 ≤ at).
        let same : i.0 ≡ at = (let m = i.1 in omega (arith, l, m)) in
        let sub : Subnet w c b = subst (λ (j : ℕ). Subnet w c (block_of pool j)) same i.3 in
        let last = to_last w b c.address (sub c.address (own_address w c block.network)) in
        let far = all_further c k in
        absurd (omega (arith, last, far)))
        (cases_lt at i.0)

    cases : (x : ℕ) → InUnion w before x → InUnion w t.taken x ⊎ InUnion w after x
    cases x u = (union_append w t.taken after x).0 (subst (λ (l : List Network). InUnion w l x) t.all u)

    put_back : (x : ℕ) → InUnion w t.taken x ⊎ InUnion w after x → InUnion w before x
    put_back x u = subst (λ (l : List Network). InUnion w l x) (sym t.all) ((union_append w t.taken after x).1 u)

    same : (x : ℕ) → InUnion w t.taken x ↔ IsUsedIn w b used x
    same x = (
      (λ u. (taken_within u.0 u.1 x u.2, h.used_only x (put_back x (inl u)))),
      (λ m. ⊎_elim (λ (u : InUnion w t.taken x). u)
          (λ (u : InUnion w after x).
          let far = all_further u.0 u.1 in
          let f = from_first w u.0 x (h.blocks u.0 (left_in u.0 u.1)) u.2 in
          let l = to_last w b x m.0 in
          absurd (omega (arith, far, f, l)))
          (cases x (h.all_used at x (omega arith) in_pool m.0 m.1))),
    )

    taken_blocks : (c : Network) → Contains t.taken c → IsCidrBlock w c
    taken_blocks c k = h.blocks c (taken_in c k)

    fits : b.address + total w t.taken ≤ b.address + block_size w b.prefix
    fits =
        let e = own.block in
        let pos = size_pos w b.prefix in
        total_within w t.taken b.address (b.address + block_size w b.prefix) parts.0 taken_blocks
        (λ c k.
        let block = taken_blocks c k in
        let sub = taken_within c k in
        let f = from_first w b c.address own (sub c.address (own_address w c block.network)) in
        let l = to_last w b (high w c) (sub (high w c) (has_ends w c block.network).high_is_member) in
        (f, omega (arith, l, e, pos))) (omega arith)

    exact : n ≡ total w t.taken
    exact =
        let top = high_fits w b own.network in
        let small : 2 ^ w ≤ 2 ^ 128 = pow_mono few in
        let within : total w t.taken ≤ 2 ^ 128 = omega (arith, fits, top, small) in
        t.counted ∙ min-eq_left within

    number : HasCount (IsUsedIn w b used) n
    number = subst (HasCount (IsUsedIn w b used)) (sym exact)
        (count_of_same (InUnion w t.taken) (IsUsedIn w b used) (total w t.taken) same
        (apart_count w t.taken parts.0 taken_blocks))

    pub counted : IsCounting w pool used after (usage ++ (b, n) ∷ []) (at + 1)
    counted = record {
      counted = record {
        blocks =
            let e = h.counted.blocks in
            map-append (λ (one : Network × ℕ). one.0) usage ((b, n) ∷ []) ∙ ap (λ l. l ++ b ∷ []) e
            ∙ sym (take_more pool at (record { address = 0; prefix = 0 }) in_pool);
        counts = All-push (λ (one : Network × ℕ). HasCount (IsUsedIn w one.0 used) one.1) usage (b, n)
            h.counted.counts number;
        within = All-push (λ (one : Network × ℕ). one.1 ≤ block_size w one.0.prefix) usage (b, n) h.counted.within
            (let x = exact in let f = fits in omega (arith, x, f));
      };
      apart = parts.1;
      blocks = λ c k. h.blocks c (left_in c k);
      lies = later;
      used_only = λ x u. h.used_only x (put_back x (inr u));
      all_used = λ j x l m k u. ⊎_elim
          (λ (v : InUnion w t.taken x).
          let far = apart_at at j (omega (arith, l)) m in
          absurd (no_shared w b (block_of pool j) x (block_at j m) far (taken_within v.0 v.1 x v.2) k))
          (λ (v : InUnion w after x). v)
          (cases x (h.all_used j x (omega (arith, l)) m k u));
    }

  pub all_counted : (pieces : List Network) (usage : List (Network × ℕ)) (at : ℕ) → length pool ≤ at
      → IsCounting w pool used pieces usage at → AreUsed w pool used usage
  all_counted pieces usage at l h = subst (λ (list : List Network). AreUsed w list used usage) (take_all at pool l) h.counted

  -- none is counted yet
  pub none_counted : (pieces : List Network) → AggregateHasNetworks → IsAddressSet w pool
      → IsLeastList w (InBoth w pool used) pieces → IsShortest w (InBoth w pool used) pieces
      → IsCounting w pool used pieces [] 0
  none_counted pieces networks set least short =
      let block : (c : Network) → Contains pieces c → IsCidrBlock w c = λ c k.
      let m : IsMaximalIn w (InBoth w pool used) c = (least.maximal c).0 k in
      record { network = m.network; block = m.block } in
      record {
        counted = record {
          blocks = refl;
          counts = λ k d l. absurd (omega (arith, l));
          within = λ k d l. absurd (omega (arith, l));
        };
        apart = short.apart;
        blocks = block;
        lies = λ c k.
            let one = (networks w pool pool set c (block c k).network).0
            (λ x m. ((short.addresses x).0 (c, k, m)).0) in
            let at = contains_at pool one.0 one.1 in
            (at.0, omega arith, at.1, subst (Subnet w c) (sym at.2) one.2);
        used_only = λ x u. ((short.addresses x).0 u).1;
        all_used = λ j x l m k u. (short.addresses x).1
            ((block_of pool j, Contains-get_or pool j (record { address = 0; prefix = 0 }) m, k), u);
      }

-- ---- the blocks of a pool as the values that `pair` gives

module _ {X C : Type 0} (pair : X → Network) (number : C → ℕ) (w : ℕ) (pool used : List Network) (few : w ≤ 128)
    (networks : AggregateHasNetworks) (is_apart : AggregateIsApart) (set : IsAddressSet w pool) where
  abbrev line : X × C → Network × ℕ
  line one = (pair one.0, number one.1)

  in_set : (c : Network) → Contains pool c → IsCidrBlock w c
  in_set c k = let m : IsMaximalIn w (InUnion w pool) c = (set.maximal c).0 k in
      record { network = m.network; block = m.block }

  pub counting_starts : (pieces after : List Network) (next : Option X) (items : List (X × C))
      → IsLeastList w (InBoth w pool used) pieces → IsShortest w (InBoth w pool used) pieces → items ≡ []
      → MatchOption next ((pieces ≡ []) × (after ≡ [])) (λ x. pieces ≡ pair x ∷ after)
      → IsCounting w pool used (at_hand pair next after) (map line items) 0
  counting_starts pieces after next items least short none first =
      subst (λ (usage : List (X × C)). IsCounting w pool used (at_hand pair next after) (map line usage) 0) (sym none)
      (subst (λ (list : List Network). IsCounting w pool used list [] 0) (next_at pair pieces after next first)
      (none_counted w pool used few (is_apart w pool pool set) in_set pieces networks set least short))

  pub next_counted : (xs : List X) (before after : List Network) (items new : List (X × C)) (x : X) (count : C) (at : ℕ)
      → map pair xs ≡ pool → at < length xs → x ≡ get_or xs at x → new ≡ items ++ (x, count) ∷ []
      → TakesWithin w (pair x) before after (number count) → IsCounting w pool used before (map line items) at
      → IsCounting w pool used after (map line new) (at + 1)
  next_counted xs before after items new x count at mapped within is pushed takes h =
      let in_pool : at < length pool = let long : length (map pair xs) ≡ length pool = ap length mapped in
      omega (arith, within, long, length-map xs pair) in
      let here : block_of pool at ≡ pair x = ap (λ l. block_of l at) (sym mapped)
      ∙ get_or-map pair xs at x (record { address = 0; prefix = 0 }) within ∙ sym (ap pair is) in
      let t : TakesWithin w (block_of pool at) before after (number count) =
      subst (λ (b : Network). TakesWithin w b before after (number count)) (sym here) takes in
      let same : map line new ≡ map line items ++ (block_of pool at, number count) ∷ [] =
      ap (map line) pushed ∙ map-append line items ((x, count) ∷ [])
      ∙ ap (λ b. map line items ++ (b, number count) ∷ []) (sym here) in
      subst (λ (usage : List (Network × ℕ)). IsCounting w pool used after usage (at + 1)) (sym same)
      (counted w pool used few (is_apart w pool pool set) in_set before after (map line items) at (number count) in_pool
      h t)
