-- The state of a difference, and its steps.
use Rattle.ipnetwork_sets.proofs.Words.{◌≡◌, ◌↔◌, ℕ, suc, ◌+◌, ◌<◌, ◌≤◌, inl, inr, sym, refl, ap, subst, ◌∙◌, arith, ⊎_elim, List, [], ◌∷◌, length, Option, None, Some, cases_lt, option_map, Network, IsNetwork, IsCidrBlock, Member, Subnet, high, size_pos, has_ends, within_member, member_within, FromTo, LiesIn, IsMaximalIn, IsLeastList, InUnion, AggregateIsApart, AggregateHasOneBlock, AggregateHasNetworks, own_address, contains_head, least_of_none, least_of_one, least_of_same, least_unique, IsAddressSet, InFirstAlone, InNetworkAlone, left_blocks, Skips, IsFreeRange, IsAtHand, TakesPart, HasNoPart, InLeft, count_at_hand, IsNextPart}
use Rattle.ipnetwork_sets.proofs.LeastBlocks.{left_is_least}
use Rattle.ipnetwork_sets.proofs.Lists.{set_block}
use Rattle.ipnetwork_sets.proofs.FreeRanges.{at_most_high, between}
use Rattle.ipnetwork_sets.proofs.Steps.{first_and_rest, same_list, tail_is_set, union_cons, union_nil, union_behind}

-- ---- the initial state

pub difference_starts : (w : ℕ) (first cut : List Network)
    → IsLeastList w (InFirstAlone w first cut) (left_blocks w None first cut)
difference_starts w first cut =
    least_of_same w (InLeft w None first cut) (InFirstAlone w first cut) (left_blocks w None first cut)
    (λ x. (
      (λ s. (⊎_elim (λ (n : ⊥). absurd n) (λ (c : InUnion w first x). c) s.0, s.1)),
      (λ s. (inr s.0, s.1)),
    ))
    (left_is_least w None first cut)

pub network_starts : (w : ℕ) (n b : Network) (first : ℕ) (rest cut : List Network) → IsCidrBlock w b → first ≡ b.address
    → ((x : ℕ) → Member w b x ↔ Member w n x) → rest ≡ []
    → IsLeastList w (InNetworkAlone w n cut) (left_blocks w (Some (b, first)) rest cut)
network_starts w n b first rest cut hb begins same e =
    least_of_same w (InLeft w (Some (b, first)) rest cut) (InNetworkAlone w n cut)
    (left_blocks w (Some (b, first)) rest cut)
    (λ x. (
      (λ s. (
        ⊎_elim (λ (f : Member w b x × (first ≤ x)). (same x).0 f.0)
            (λ (c : InUnion w rest x). absurd (union_nil w x (subst (λ (t : List Network). InUnion w t x) e c))) s.0,
        s.1,
      )),
      (λ s.
          let m : Member w b x = (same x).1 s.0 in
          let i = within_member w b x m in
          let block = hb.block in
          (inl (m, omega (arith, i.0, begins)), s.1)),
    ))
    (left_is_least w (Some (b, first)) rest cut)

pub one_block_is_set : (w : ℕ) (b : Network) → IsCidrBlock w b → IsAddressSet w (b ∷ [])
one_block_is_set w b hb =
    least_of_same w (Member w b) (InUnion w (b ∷ [])) (b ∷ [])
    (λ x. (
      (λ m. (union_cons w b [] x).1 (inl m)),
      (λ c. ⊎_elim (λ (m : Member w b x). m) (λ (d : InUnion w [] x). absurd (union_nil w x d))
          ((union_cons w b [] x).0 c)),
    ))
    (least_of_one w b hb.network hb.block)

-- ---- a part is taken

-- the whole and the remaining blocks are a set, whose first block is the whole
takes_whole : (w : ℕ) (rest cut : List Network) (p : Network × ℕ) (after : List Network) → IsAtHand w None rest cut
    → TakesPart None rest p after
    → IsAtHand w (Some p) after cut
takes_whole w rest cut p after h t =
    let set : IsAddressSet w (p.0 ∷ after) = subst (λ (l : List Network). IsAddressSet w l) t.0 h.0 in
    let hb : IsCidrBlock w p.0 = set_block w (p.0 ∷ after) p.0 set (contains_head p.0 after) in
    (set, h.1, subst (λ (x : ℕ). Member w p.0 x) (sym t.1) (own_address w p.0 hb.network))

pub takes_state : (w : ℕ) (at_hand : Option (Network × ℕ)) (rest cut : List Network) (p : Network × ℕ)
    (after : List Network)
    → IsAtHand w at_hand rest cut → TakesPart at_hand rest p after → IsAtHand w (Some p) after cut
takes_state w None rest cut p after h t = takes_whole w rest cut p after h t
takes_state w (Some q) rest cut p after h t =
    subst (λ (l : List Network). IsAtHand w (Some p) l cut) t.1
    (subst (λ (o : Network × ℕ). IsAtHand w (Some o) rest cut) t.0 h)

takes_blocks : (w : ℕ) (at_hand : Option (Network × ℕ)) (rest cut : List Network) (p : Network × ℕ)
    (after : List Network)
    → IsAtHand w at_hand rest cut → TakesPart at_hand rest p after
    → left_blocks w at_hand rest cut ≡ left_blocks w (Some p) after cut
takes_blocks w None rest cut p after h t =
    let hand = takes_whole w rest cut p after h t in
    let hb : IsCidrBlock w p.0 = set_block w (p.0 ∷ after) p.0 hand.0 (contains_head p.0 after) in
    let block = hb.block in
    let begins = t.1 in
    same_list w (InLeft w None rest cut) (InLeft w (Some p) after cut) (left_blocks w None rest cut)
    (left_blocks w (Some p) after cut)
    (left_is_least w None rest cut) (left_is_least w (Some p) after cut)
    (λ x. (
      (λ s. (
        ⊎_elim (λ (n : ⊥). absurd n)
            (λ (c : InUnion w rest x). ⊎_elim
            (λ (m : Member w p.0 x). let i = within_member w p.0 x m in inl (m, omega (arith, i.0, block, begins)))
            (λ (d : InUnion w after x). inr d)
            ((union_cons w p.0 after x).0 (subst (λ (l : List Network). InUnion w l x) t.0 c)))
            s.0,
        s.1,
      )),
      (λ s. (
        inr (subst (λ (l : List Network). InUnion w l x) (sym t.0) ((union_cons w p.0 after x).1
            (⊎_elim (λ (f : Member w p.0 x × (p.1 ≤ x)). inl f.0) (λ (d : InUnion w after x). inr d) s.0))),
        s.1,
      )),
    ))
takes_blocks w (Some q) rest cut p after h t =
    ap (λ o. left_blocks w (Some o) rest cut) t.0 ∙ ap (λ l. left_blocks w (Some p) l cut) t.1

pub takes_falls : (at_hand : Option (Network × ℕ)) (rest : List Network) (p : Network × ℕ) (after : List Network)
    → TakesPart at_hand rest p after → length after < length rest + count_at_hand at_hand
takes_falls None rest p after t = let e : length rest ≡ suc (length after) = ap length t.0 in omega arith
takes_falls (Some q) rest p after t = let e : length rest ≡ length after = ap length t.1 in omega arith

pub count_of_mapped : {X Y : Type 0} (f : X → Y) (o : Option X) → count_at_hand (option_map f o) ≡ count_at_hand o
count_of_mapped f None = refl
count_of_mapped f (Some x) = refl

pub no_part : (w : ℕ) (at_hand : Option (Network × ℕ)) (rest cut : List Network) → HasNoPart at_hand rest
    → left_blocks w at_hand rest cut ≡ []
no_part w None rest cut e =
    least_unique w (InLeft w None rest cut) (left_blocks w None rest cut) [] (left_is_least w None rest cut)
    (least_of_none w (InLeft w None rest cut)
    (λ x s. ⊎_elim (λ (n : ⊥). n)
    (λ (c : InUnion w rest x). union_nil w x (subst (λ (l : List Network). InUnion w l x) e c)) s.0))
no_part w (Some q) rest cut n = absurd n

-- ---- the addresses passed

-- the widest block at the start of a free range ends in the whole
pub ends_in_whole : (w : ℕ) (whole : Network) (first last : ℕ) (b : Network) (left : List Network)
    → IsFreeRange w whole first last left
    → IsMaximalIn w (FromTo first last) b → high w b ≤ high w whole
ends_in_whole w whole first last b left free widest =
    let in_range = (widest.lies (high w b) (has_ends w b widest.network).high_is_member).1 in
    let ends = free.ends in
    omega (arith, in_range, ends)

module _ (w : ℕ) (p : Network × ℕ) (rest cut left : List Network) (apart : AggregateIsApart)
    (h : IsAtHand w (Some p) rest cut) (set : IsAddressSet w left) where
  -- the remaining blocks come after the whole
  behind_whole : (x : ℕ) → InUnion w rest x → high w p.0 < x
  behind_whole x c = union_behind w p.0 rest apart h.0 x c

  -- the rest of the whole is passed
  passes_whole : Skips w p.0 p.1 cut (high w p.0 + 1) left
      → left_blocks w (Some p) rest cut ≡ left_blocks w None rest left
  passes_whole skips =
      same_list w (InLeft w (Some p) rest cut) (InLeft w None rest left) (left_blocks w (Some p) rest cut)
      (left_blocks w None rest left)
      (left_is_least w (Some p) rest cut) (left_is_least w None rest left)
      (λ x. (
        (λ s. ⊎_elim
            (λ (f : Member w p.0 x × (p.1 ≤ x)).
            let i = within_member w p.0 x f.0 in
            let pos = size_pos w p.0.prefix in
            let r : InLeft w None rest left x = absurd (s.1 (skips.passed x f.0 f.1 (omega (arith, i.1)))) in r)
            (λ (c : InUnion w rest x).
            let l = behind_whole x c in
            (inr c, λ d. s.1 ((skips.same x (omega arith)).1 d)))
            s.0),
        (λ s. ⊎_elim
            (λ (n : ⊥). absurd n)
            (λ (c : InUnion w rest x).
            let l = behind_whole x c in
            (inr c, λ d. s.1 ((skips.same x (omega arith)).0 d)))
            s.0),
      ))

  whole_block : IsCidrBlock w p.0
  whole_block = set_block w (p.0 ∷ rest) p.0 h.0 (contains_head p.0 rest)

  -- the widest block at the start of the first free range
  module _ (first last : ℕ) (b : Network) (free : IsFreeRange w p.0 first last left)
      (skips : Skips w p.0 p.1 cut first left)
      (begins : b.address ≡ first) (widest : IsMaximalIn w (FromTo first last) b) where
    begins_before_end : first ≤ high w b
    begins_before_end = at_most_high w b first (subst (λ (x : ℕ). Member w b x) begins (own_address w b widest.network))

    -- the addresses left, from the range on
    abbrev Now : ℕ → Type 0
    Now = InLeft w (Some (p.0, first)) rest left

    same_now : (x : ℕ) → InLeft w (Some p) rest cut x ↔ Now x
    same_now x =
        let order = at_most_high w p.0 first free.begins in
        let forward = skips.forward in (
          (λ s. ⊎_elim
              (λ (f : Member w p.0 x × (p.1 ≤ x)). ⊎_elim
              (λ (before : x < first). let r : Now x = absurd (s.1 (skips.passed x f.0 f.1 before)) in r)
              (λ (at : first ≤ x). (inl (f.0, at), λ d. s.1 ((skips.same x at).1 d)))
              (cases_lt x first))
              (λ (c : InUnion w rest x).
              let l = behind_whole x c in
              (inr c, λ d. s.1 ((skips.same x (omega (arith, order, l))).1 d)))
              s.0),
          (λ s. ⊎_elim
              (λ (f : Member w p.0 x × (first ≤ x)).
              let at = f.1 in
              (inl (f.0, omega (arith, forward, at)), λ d. s.1 ((skips.same x at).0 d)))
              (λ (c : InUnion w rest x).
              let l = behind_whole x c in
              (inr c, λ d. s.1 ((skips.same x (omega (arith, order, l))).0 d)))
              s.0),
        )

    block_lies : LiesIn w Now b
    block_lies x m =
        let in_range = widest.lies x m in
        let ends = free.ends in (
          inl (
            between w p.0 first x (high w p.0) whole_block free.begins in_range.0 (omega (arith, in_range.1, ends))
                (omega arith),
            in_range.0,
          ),
          free.free x in_range.0 in_range.1,
        )

    blocks_now : left_blocks w (Some p) rest cut ≡ left_blocks w (Some (p.0, first)) rest left
    blocks_now = same_list w (InLeft w (Some p) rest cut) Now (left_blocks w (Some p) rest cut)
        (left_blocks w (Some (p.0, first)) rest left)
        (left_is_least w (Some p) rest cut) (left_is_least w (Some (p.0, first)) rest left) same_now

    module _ (one : AggregateHasOneBlock) (networks : AggregateHasNetworks) where
      -- a network of addresses that are left, from the start of the range on, lies in the range
      in_range : (n : Network) → IsNetwork w n → Subnet w b n → LiesIn w Now n → LiesIn w (FromTo first last) n
      in_range n nn sub lies x m =
          let start : Member w n first =
          sub first (subst (λ (y : ℕ). Member w b y) begins (own_address w b widest.network)) in
          let all : List Network = p.0 ∷ rest in
          let in_all : LiesIn w (InUnion w all) n = λ y k. (union_cons w p.0 rest y).1
          (⊎_elim (λ (f : Member w p.0 y × (first ≤ y)). inl f.0) (λ (c : InUnion w rest y). inr c) (lies y k).0) in
          let o = (networks w all all h.0 n nn).0 in_all in
          let same : o.0 ≡ p.0 = one w all all o.0 p.0 first h.0 o.1 (contains_head p.0 rest) (o.2 first start)
          free.begins in
          let within : Subnet w n p.0 = subst (λ (c : Network). Subnet w n c) same o.2 in
          let ends = at_most_high w p.0 x (within x m) in
          let from : first ≤ x = ⊎_elim (λ (f : Member w p.0 x × (first ≤ x)). f.1)
          (λ (c : InUnion w rest x). let l = behind_whole x c in let r : first ≤ x = absurd (omega (arith, ends, l)) in
          r) (lies x m).0 in (
            from,
            ⊎_elim
                (λ (past : last < x).
                let some = free.some in
                let i = within_member w n first start in
                let k = within_member w n x m in
                let next : Member w n (last + 1) =
                member_within w n nn (last + 1) (omega (arith, i.0, some)) (omega (arith, k.1, past)) in
                let r : x ≤ last = absurd (⊎_elim
                (λ (e : last ≡ high w p.0). let q : ⊥ = omega (arith, e, ends, past) in q)
                (λ (c : InUnion w left (last + 1)). (lies (last + 1) next).1 c)
                free.longest) in r)
                (λ (le : x ≤ last). le)
                (cases_lt last x),
          )

      block_is_maximal : IsMaximalIn w Now b
      block_is_maximal = record {
        network = widest.network;
        block = widest.block;
        lies = block_lies;
        maximal = λ n nn lt sub lies. widest.maximal n nn lt sub (in_range n nn sub lies);
      }

      -- the block is returned, and the whole goes on after it, or the remaining blocks are left
      pub gives : (next : Option (Network × ℕ)) → IsNextPart w p.0 b next
          → IsAtHand w next rest left × (left_blocks w (Some p) rest cut ≡ b ∷ left_blocks w next rest left)
      gives None ends =
          let order = begins_before_end in
          let Then : ℕ → Type 0 = InLeft w None rest left in (
            (tail_is_set w p.0 rest apart h.0, set),
            blocks_now ∙ first_and_rest w Now Then b (left_blocks w (Some (p.0, first)) rest left)
                (left_blocks w None rest left)
                (left_is_least w (Some (p.0, first)) rest left) block_is_maximal
                (λ x. (
                  (λ s. ⊎_elim
                      (λ (f : Member w p.0 x × (first ≤ x)).
                      let last_of = at_most_high w p.0 x f.0 in
                      inl (of_block x f.1 (omega (arith, last_of, ends))))
                      (λ (c : InUnion w rest x). inr (inr c, s.1))
                      s.0),
                  (λ o. ⊎_elim
                      (λ (m : Member w b x). block_lies x m)
                      (λ (t : Then x). (⊎_elim (λ (n : ⊥). absurd n) (λ (c : InUnion w rest x). inr c) t.0, t.1))
                      o),
                ))
                (λ x t. ⊎_elim
                (λ (n : ⊥). absurd n)
                (λ (c : InUnion w rest x). let l = behind_whole x c in omega (arith, l, ends))
                t.0)
                (left_is_least w None rest left),
          )
        where
          of_block : (x : ℕ) → first ≤ x → x ≤ high w b → Member w b x
          of_block x l k = between w b first x (high w b) (record { network = widest.network; block = widest.block })
              (subst (λ (y : ℕ). Member w b y) begins (own_address w b widest.network)) l k (omega arith)
      gives (Some q) is =
          let order = begins_before_end in
          let whole_order = ends_in_whole w p.0 first last b left free widest in
          let next : ℕ = high w b + 1 in
          let below = is.2 in
          let Then : ℕ → Type 0 = InLeft w (Some (p.0, next)) rest left in
          let Goal : Network → ℕ → Type 0 = λ n y. IsAtHand w (Some (n, y)) rest left
          × (left_blocks w (Some p) rest cut ≡ b ∷ left_blocks w (Some (n, y)) rest left) in
          subst (λ (y : ℕ). Goal q.0 y) (sym is.1) (subst (λ (n : Network). Goal n next) (sym is.0) (
            (
              h.0,
              set,
              between w p.0 first next (high w p.0) whole_block free.begins (omega (arith, order))
                  (omega (arith, below)) (omega arith),
            ),
            blocks_now ∙ first_and_rest w Now Then b (left_blocks w (Some (p.0, first)) rest left)
                (left_blocks w (Some (p.0, next)) rest left)
                (left_is_least w (Some (p.0, first)) rest left) block_is_maximal
                (λ x. (
                  (λ s. ⊎_elim
                      (λ (f : Member w p.0 x × (first ≤ x)). ⊎_elim
                      (λ (l : x < next). inl (of_block x f.1 (omega (arith, l))))
                      (λ (le : next ≤ x). inr (inl (f.0, le), s.1))
                      (cases_lt x next))
                      (λ (c : InUnion w rest x). inr (inr c, s.1))
                      s.0),
                  (λ o. ⊎_elim
                      (λ (m : Member w b x). block_lies x m)
                      (λ (t : Then x). (
                        ⊎_elim (λ (f : Member w p.0 x × (next ≤ x)). let a = f.1 in
                            inl (f.0, omega (arith, a, order))) (λ (c : InUnion w rest x). inr c) t.0,
                        t.1,
                      ))
                      o),
                ))
                (λ x t. ⊎_elim
                (λ (f : Member w p.0 x × (next ≤ x)). let a = f.1 in omega (arith, a))
                (λ (c : InUnion w rest x). let l = behind_whole x c in omega (arith, l, whole_order))
                t.0)
                (left_is_least w (Some (p.0, next)) rest left),
          ))
        where
          of_block : (x : ℕ) → first ≤ x → x ≤ high w b → Member w b x
          of_block x l k = between w b first x (high w b) (record { network = widest.network; block = widest.block })
              (subst (λ (y : ℕ). Member w b y) begins (own_address w b widest.network)) l k (omega arith)

  passed_state : IsAtHand w None rest left
  passed_state = (tail_is_set w p.0 rest apart h.0, set)

-- ---- a part is taken, and passed or returned; `entry` are the blocks at the start

module _ (w : ℕ) (entry : List Network) (at_hand : Option (Network × ℕ)) (rest cut : List Network) (p : Network × ℕ)
    (after left : List Network) (apart : AggregateIsApart)
    (same : entry ≡ left_blocks w at_hand rest cut) (h : IsAtHand w at_hand rest cut)
    (t : TakesPart at_hand rest p after) (set : IsAddressSet w left) where
  state : IsAtHand w (Some p) after cut
  state = takes_state w at_hand rest cut p after h t

  taken : entry ≡ left_blocks w (Some p) after cut
  taken = same ∙ takes_blocks w at_hand rest cut p after h t

  pub takes_whole_part : Skips w p.0 p.1 cut (high w p.0 + 1) left
      → IsAtHand w None after left × (entry ≡ left_blocks w None after left)
  takes_whole_part skips =
      (passed_state w p after cut left apart state set, taken ∙ passes_whole w p after cut left apart state set skips)

  pub takes_block : (first last : ℕ) (b : Network) → IsFreeRange w p.0 first last left → Skips w p.0 p.1 cut first left
      → b.address ≡ first
      → IsMaximalIn w (FromTo first last) b → AggregateHasOneBlock → AggregateHasNetworks
      → (next : Option (Network × ℕ)) → IsNextPart w p.0 b next
      → IsAtHand w next after left × (entry ≡ b ∷ left_blocks w next after left)
  takes_block first last b free skips begins widest one networks next n =
      let given = gives w p after cut left apart state set first last b free skips begins widest one networks next n in
      (given.0, taken ∙ given.1)
