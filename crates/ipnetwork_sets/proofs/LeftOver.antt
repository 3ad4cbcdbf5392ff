-- Removing a network from a set: what is left of the first block that shares an address with it, between the blocks
-- before and after.
use Rattle.ipnetwork_sets.proofs.Words.{◌≡◌, ℕ, ◌-◌, ◌<◌, ◌≤◌, ◌⊎◌, inl, inr, sym, ap, subst, ◌∙◌, arith, ⊎_elim, List, [], ◌∷◌, ◌++◌, length, get_or, take, drop, append_assoc, cases_lt, cases_order, get_or_default, Contains, Network, IsNetwork, IsCidrBlock, Member, Subnet, Overlap, low, high, nested, subnet_prefix, InDifference, LiesIn, IsLeastList, InUnion, AggregateIsApart, AggregateHasNetworks, joined_take, own_address, least_of_two, IsAddressSet, MeetsUnion, InFirstAlone, IsPlace}
use Rattle.ipnetwork_sets.proofs.JoinedAround.{contains_front, contains_back, at_front, at_back, union_of_one_network, joined_drop}
use Rattle.ipnetwork_sets.proofs.Lists.{set_is_joined, joined_is_set}
use Rattle.ipnetwork_sets.proofs.Placed.{block_of_set, begins_before_end, member_ends}

module _ (w : ℕ) (bs : List Network) (n : Network) (from to : ℕ) (law : AggregateIsApart) (h : IsAddressSet w bs)
    (nn : IsNetwork w n) (place : IsPlace w bs n from to) where
  abbrev Here : ℕ → Network → Network
  Here k d = get_or bs k d

  -- if no block shares an address with the network, the set has none of its addresses
  pub meets_none : from ≡ to → ¬ (MeetsUnion w n bs)
  meets_none e m =
      let c = m.2 in
      let held : Here c.1.0 c.0 ≡ c.0 = c.1.2 in
      let i = member_ends w n m.0 m.1 in
      let j = member_ends w c.0 m.0 c.2 in
      ⊎_elim
      (λ (l : c.1.0 < from).
      let f : high w c.0 < low w n = subst (λ (t : Network). high w t < low w n) held (place.before c.1.0 c.0 l) in
      omega (arith, f, i.0, j.1))
      (λ (le : from ≤ c.1.0).
      let f : high w n < c.0.address =
      subst (λ (t : Network). high w n < t.address) held (place.behind c.1.0 c.0 (omega arith) c.1.1) in
      let hc : IsCidrBlock w c.0 = subst (λ (t : Network). IsCidrBlock w t) held
      (block_of_set w bs c.1.0 c.0 h c.1.1) in
      let block = hc.block in
      omega (arith, f, i.1, j.0, block))
      (cases_lt c.1.0 from)

  pub meets_some : (b : Network) → from < to → b ≡ get_or bs from b → MeetsUnion w n bs
  meets_some b some is =
      let within = place.within in
      let o : Overlap w b n = subst (λ (t : Network). Overlap w t n) (sym is)
      (place.shared from b (omega arith) some) in
      (o.0, o.2, (b, (from, omega arith, sym is), o.1))

  -- `whole` is the first of the blocks that share an address with the network, and `left` are the blocks left of it
  module _ (whole : Network) (left : List Network) (networks : AggregateHasNetworks) (some : from < to)
      (is : whole ≡ get_or bs from whole)
      (rest : IsLeastList w (InDifference w whole n) left) where
    -- the addresses left: those of the blocks before, those left of the whole, and those of the blocks after
    abbrev Front : ℕ → Type 0
    Front x = InUnion w (take from bs) x

    abbrev Middle : ℕ → Type 0
    Middle x = InDifference w whole n x

    abbrev Back : ℕ → Type 0
    Back x = InUnion w (drop to bs) x

    abbrev Left : ℕ → Type 0
    Left x = InFirstAlone w bs (n ∷ []) x

    abbrev Behind : ℕ → Type 0
    Behind x = Middle x ⊎ Back x

    fits : from < length bs
    fits = let within = place.within in omega arith

    whole_is_block : IsCidrBlock w whole
    whole_is_block = subst (λ (t : Network). IsCidrBlock w t) (sym is) (block_of_set w bs from whole h fits)

    -- one block is left for each bit by which the network's prefix length is longer
    pub left_length : (Subnet w whole n → left ≡ []) → (Subnet w n whole → length left ≡ n.prefix - whole.prefix)
        → length left ≡ n.prefix - whole.prefix
    left_length none longer =
        let hw = whole_is_block in
        let within = place.within in
        let o : Overlap w whole n = subst (λ (t : Network). Overlap w t n) (sym is)
        (place.shared from whole (omega arith) some) in
        ⊎_elim
        (λ (s : Subnet w whole n).
        let e : length left ≡ 0 = ap length (none s) in
        let l = subnet_prefix w whole n hw.network nn s in
        omega (arith, e, l))
        (λ (s : Subnet w n whole). longer s)
        (nested w whole n hw.network nn o)

    -- the other blocks that share an address with the network lie in it: one that had all of it would meet the whole
    inner : (k : ℕ) (c : Network) → from < k → k < to → get_or bs k c ≡ c → Subnet w c n
    inner k c more less held =
        let within = place.within in
        let l : k < length bs = omega arith in
        let hc : IsCidrBlock w c = subst (λ (t : Network). IsCidrBlock w t) held (block_of_set w bs k c h l) in
        let o : Overlap w c n = subst (λ (t : Network). Overlap w t n) held (place.shared k c (omega arith) less) in
        let p : Overlap w (Here from c) n = place.shared from c (omega arith) some in
        let apart : high w (Here from c) < c.address = subst (λ (t : Network). high w (Here from c) < t.address) held
        (law w bs bs h from k c more l) in
        let block = hc.block in
        ⊎_elim
        (λ (s : Subnet w c n). s)
        (λ (s : Subnet w n c).
        let i = member_ends w (Here from c) p.0 p.1 in
        let j = member_ends w c p.0 (s p.0 p.2) in
        let r : Subnet w c n = absurd (omega (arith, i.1, j.0, block, apart)) in
        r)
        (nested w c n hc.network nn o)

    -- the place of a block of the set: before the network, the whole itself, within the network, or after it
    abbrev Stands : Network → Type 0
    Stands c = Contains (take from bs) c ⊎ ((c ≡ whole) ⊎ (Subnet w c n ⊎ Contains (drop to bs) c))

    stands : (c : Network) → Contains bs c → Stands c
    stands c held =
        ⊎_elim
        (λ (e : held.0 ≡ from).
        let at : get_or bs from c ≡ c = ap (λ k. get_or bs k c) (sym e) ∙ held.2 in
        inr (inl (sym at ∙ get_or_default bs from c whole fits ∙ sym is)))
        (λ (o : (held.0 < from) ⊎ (from < held.0)). ⊎_elim
        (λ (l : held.0 < from). inl (contains_front bs from held.0 c l held.1 held.2))
        (λ (more : from < held.0). ⊎_elim
        (λ (less : held.0 < to). inr (inr (inl (inner held.0 c more less held.2))))
        (λ (ge : to ≤ held.0). inr (inr (inr (contains_back bs to held.0 c ge held.1 held.2))))
        (cases_lt held.0 to)) o)
        (cases_order held.0 from)

    -- the addresses of the front come before the network and before the whole
    front_before : (x : ℕ) → Front x → (x < low w n) × (x < whole.address)
    front_before x c =
        let p = at_front bs from c.0 c.1 in
        let i = member_ends w c.0 x c.2 in
        let f : high w c.0 < low w n = subst (λ (t : Network). high w t < low w n) p.3 (place.before p.0 c.0 p.1) in
        let e : high w (Here p.0 c.0) < (Here from c.0).address = law w bs bs h p.0 from c.0 p.1 fits in
        let same : Here from c.0 ≡ whole = get_or_default bs from c.0 whole fits ∙ sym is in
        let g : high w c.0 < whole.address = subst (λ (t : Network). high w c.0 < t.address) same
        (subst (λ (t : Network). high w t < (Here from c.0).address) p.3 e) in
        (omega (arith, i.1, f), omega (arith, i.1, g))

    -- the addresses of the back come after the network and after the whole
    back_behind : (x : ℕ) → Back x → (high w n < x) × (high w whole < x)
    back_behind x c =
        let p = at_back bs to c.0 c.1 in
        let i = member_ends w c.0 x c.2 in
        let hc : IsCidrBlock w c.0 = subst (λ (t : Network). IsCidrBlock w t) p.3 (block_of_set w bs p.0 c.0 h p.2) in
        let block = hc.block in
        let le = p.1 in
        let f : high w n < c.0.address =
        subst (λ (t : Network). high w n < t.address) p.3 (place.behind p.0 c.0 p.1 p.2) in
        let e : high w (Here from c.0) < (Here p.0 c.0).address = law w bs bs h from p.0 c.0 (omega arith) p.2 in
        let same : Here from c.0 ≡ whole = get_or_default bs from c.0 whole fits ∙ sym is in
        let g : high w whole < c.0.address = subst (λ (t : Network). high w t < c.0.address) same
        (subst (λ (t : Network). high w (Here from c.0) < t.address) p.3 e) in
        (omega (arith, i.0, block, f), omega (arith, i.0, block, g))

    not_of : (x : ℕ) → ¬ (Member w n x) → ¬ (InUnion w (n ∷ []) x)
    not_of x absent c = absent ((union_of_one_network w n x).0 c)

    not_in : (x : ℕ) → Left x → ¬ (Member w n x)
    not_in x s m = s.1 ((union_of_one_network w n x).1 m)

    -- the addresses left are those of the three parts
    from_left : (x : ℕ) → Left x → Front x ⊎ Behind x
    from_left x s =
        let c : Network = s.0.0 in
        let m : Member w c x = s.0.2 in
        ⊎_elim
        (λ (k : Contains (take from bs) c). inl (c, k, m))
        (λ (o : (c ≡ whole) ⊎ (Subnet w c n ⊎ Contains (drop to bs) c)). inr (⊎_elim
        (λ (e : c ≡ whole). inl (subst (λ (t : Network). Member w t x) e m, not_in x s))
        (λ (p : Subnet w c n ⊎ Contains (drop to bs) c). ⊎_elim
        (λ (sub : Subnet w c n). let r : Behind x = absurd (not_in x s (sub x m)) in r)
        (λ (k : Contains (drop to bs) c). inr (c, k, m)) p) o))
        (stands c s.0.1)

    to_left : (x : ℕ) → Front x ⊎ Behind x → Left x
    to_left x o =
        ⊎_elim
        (λ (c : Front x).
        let p = at_front bs from c.0 c.1 in
        let f = front_before x c in
        ((c.0, (p.0, p.2, p.3), c.2), not_of x (λ m. let i = member_ends w n x m in omega (arith, f.0, i.0))))
        (λ (o : Behind x). ⊎_elim
        (λ (d : Middle x). ((whole, (from, fits, sym is), d.0), not_of x d.1))
        (λ (c : Back x).
        let p = at_back bs to c.0 c.1 in
        let f = back_behind x c in
        ((c.0, (p.0, p.2, p.3), c.2), not_of x (λ m. let i = member_ends w n x m in omega (arith, f.0, i.1)))) o)
        o

    front_first : (x y : ℕ) → Front x → Behind y → x < y
    front_first x y c o =
        let f = front_before x c in
        let block = whole_is_block.block in
        let e = begins_before_end w whole whole_is_block in
        ⊎_elim
        (λ (d : Middle y). let i = member_ends w whole y d.0 in omega (arith, f.1, i.0, block))
        (λ (d : Back y). let g = back_behind y d in omega (arith, f.1, g.1, e))
        o

    middle_first : (x y : ℕ) → Middle x → Back y → x < y
    middle_first x y d c =
        let i = member_ends w whole x d.0 in
        let g = back_behind y c in
        omega (arith, i.1, g.1)

    -- a network whose addresses are all left lies in one of the three parts
    in_one : (m : Network) → IsNetwork w m → LiesIn w Left m → LiesIn w Front m ⊎ (LiesIn w Middle m ⊎ LiesIn w Back m)
    in_one m mm lies =
        let o = (networks w bs bs h m mm).0 (λ x k. (lies x k).0) in
        let c : Network = o.0 in
        let sub : Subnet w m c = o.2 in
        ⊎_elim
        (λ (k : Contains (take from bs) c). inl (λ x i. (c, k, sub x i)))
        (λ (p : (c ≡ whole) ⊎ (Subnet w c n ⊎ Contains (drop to bs) c)). inr (⊎_elim
        (λ (e : c ≡ whole). inl (λ x i. (subst (λ (t : Network). Member w t x) e (sub x i), not_in x (lies x i))))
        (λ (q : Subnet w c n ⊎ Contains (drop to bs) c). ⊎_elim
        (λ (s : Subnet w c n).
        let own = own_address w m mm in
        let r : LiesIn w Middle m ⊎ LiesIn w Back m =
        absurd (not_in m.address (lies m.address own) (s m.address (sub m.address own))) in
        r)
        (λ (k : Contains (drop to bs) c). inr (λ x i. (c, k, sub x i))) q) p))
        (stands c o.1)

    in_two : (m : Network) → IsNetwork w m → LiesIn w Behind m → LiesIn w Middle m ⊎ LiesIn w Back m
    in_two m mm lies =
        ⊎_elim
        (λ (f : LiesIn w Front m).
        let own = own_address w m mm in
        let l = front_first m.address m.address (f m.address own) (lies m.address own) in
        let r : LiesIn w Middle m ⊎ LiesIn w Back m = absurd (omega (arith, l)) in
        r)
        (λ (o : LiesIn w Middle m ⊎ LiesIn w Back m). o)
        (in_one m mm (λ x k. to_left x (inr (lies x k))))

    to_behind : (m : Network) → LiesIn w Middle m ⊎ LiesIn w Back m → LiesIn w Behind m
    to_behind m o x k = ⊎_elim (λ (d : LiesIn w Middle m). inl (d x k)) (λ (d : LiesIn w Back m). inr (d x k)) o

    front_is_set : IsLeastList w Front (take from bs)
    front_is_set = joined_is_set w (take from bs) (joined_take w from bs (set_is_joined w bs law h))

    back_is_set : IsLeastList w Back (drop to bs)
    back_is_set = joined_is_set w (drop to bs) (joined_drop w to bs (set_is_joined w bs law h))

    pub left_over : IsLeastList w Left (take from bs ++ left ++ drop to bs)
    left_over =
        subst (λ (l : List Network). IsLeastList w Left l) (sym (append_assoc (take from bs) left (drop to bs)))
        (least_of_two w Left Front Behind (take from bs) (left ++ drop to bs)
        (λ x. (from_left x, to_left x))
        front_first
        (λ m mm lies. ⊎_elim
        (λ (f : LiesIn w Front m). inl f)
        (λ (o : LiesIn w Middle m ⊎ LiesIn w Back m). inr (to_behind m o))
        (in_one m mm lies))
        front_is_set
        (least_of_two w Behind Middle Back left (drop to bs)
        (λ x. ((λ o. o), (λ o. o)))
        middle_first
        in_two
        rest
        back_is_set))
