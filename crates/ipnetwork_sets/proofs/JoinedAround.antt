-- Adding a network to a set: the block that replaces it, joined with the blocks next to it.
use Rattle.ipnetwork_sets.proofs.Words.{◌≡◌, ◌↔◌, ℕ, ◌+◌, ◌-◌, ◌<◌, ◌≤◌, ◌⊎◌, inl, inr, sym, ap, subst, ◌∙◌, arith, ⊎_elim, List, [], ◌∷◌, ◌++◌, length, get_or, take, drop, Option, None, Some, MatchOption, cases_lt, Contains, get_or_default, get_or-take, get_or-drop, length-take, length-drop, take_more, drop_more, All-append, All-drop, Network, IsNetwork, IsCidrBlock, Member, Subnet, Overlap, block_of, low, high, block_begins, block_fits_too, block_same_set, has_ends, nested, block_at_network, parent, IsLeastList, InUnion, LiesInUnion, AggregateIsApart, AreHalves, Follows, AreJoined, joined_take, in_union_push, halves_join, nothing_between, contains_head, contains_cons, pairs_append, least_of_same, IsAddressSet, InEither, IsPlace, NoHalfBefore, JoinsBefore, NoHalfBehind, JoinsBehind, union_append}
use Rattle.ipnetwork_sets.proofs.Lists.{set_is_joined, joined_is_set}
use Rattle.ipnetwork_sets.proofs.Placed.{block_of_set, begins_before_end, member_ends}
use Rattle.ipnetwork_sets.proofs.Steps.{union_cons, union_nil}

-- ---- the parts of a list

pub contains_front : {X : Type 0} (xs : List X) (n k : ℕ) (x : X) → k < n → k < length xs → get_or xs k x ≡ x
    → Contains (take n xs) x
contains_front xs n k x l m is = let size = length-take n xs in (k, omega (arith, size), get_or-take n xs k x l ∙ is)

pub contains_back : {X : Type 0} (xs : List X) (n k : ℕ) (x : X) → n ≤ k → k < length xs → get_or xs k x ≡ x
    → Contains (drop n xs) x
contains_back xs n k x l m is =
    let size = length-drop n xs in
    let e : n + (k - n) ≡ k = omega arith in
    (k - n, omega (arith, size), get_or-drop n xs (k - n) x ∙ ap (λ j. get_or xs j x) e ∙ is)

pub at_front : {X : Type 0} (xs : List X) (n : ℕ) (x : X) → Contains (take n xs) x → (k : ℕ) × (k < n) × (k < length xs)
    × (get_or xs k x ≡ x)
at_front xs n x c =
    let size = length-take n xs in
    let l = c.1 in
    let less : c.0 < n = omega (arith, size, l) in
    (c.0, less, omega (arith, size, l), sym (get_or-take n xs c.0 x less) ∙ c.2)

pub at_back : {X : Type 0} (xs : List X) (n : ℕ) (x : X) → Contains (drop n xs) x → (k : ℕ) × (n ≤ k) × (k < length xs)
    × (get_or xs k x ≡ x)
at_back xs n x c =
    let size = length-drop n xs in
    let l = c.1 in
    (n + c.0, omega arith, omega (arith, size, l), sym (get_or-drop n xs c.0 x) ∙ c.2)

-- the union of a single network has the addresses of the network
pub union_of_one_network : (w : ℕ) (n : Network) (x : ℕ) → InUnion w (n ∷ []) x ↔ Member w n x
union_of_one_network w n x = (
  (λ c. ⊎_elim (λ (m : Member w n x). m) (λ (d : InUnion w [] x). absurd (union_nil w x d))
      ((union_cons w n [] x).0 c)),
  (λ m. (n, contains_head n [], m)),
)

-- two joined lists, the second of which follows the first
pub joined_append : (w : ℕ) (xs ys : List Network) → AreJoined w xs → AreJoined w ys
    → ((a b : Network) → Contains xs a → Contains ys b → Follows w a b) → AreJoined w (xs ++ ys)
joined_append w xs ys h k across = record {
  blocks = All-append (IsCidrBlock w) xs ys h.blocks k.blocks;
  pairs = pairs_append (Follows w) xs ys h.pairs k.pairs across;
}

pub joined_drop : (w n : ℕ) (bs : List Network) → AreJoined w bs → AreJoined w (drop n bs)
joined_drop w n bs h = record {
  blocks = All-drop (IsCidrBlock w) n bs h.blocks;
  pairs = λ i j d l m.
      let size = length-drop n bs in
      subst (λ (u : Network). Follows w u (get_or (drop n bs) j d)) (sym (get_or-drop n bs i d))
      (subst (λ (v : Network). Follows w (get_or bs (n + i) d) v) (sym (get_or-drop n bs j d))
      (h.pairs (n + i) (n + j) d (omega arith) (omega (arith, size, m))));
}

-- ---- joining the block step by step

-- the blocks before the index `first`, the block `b`, and those from the index `behind` on have the addresses of the
-- set and those of the network
pub record IsJoinedTo (w : ℕ) (bs : List Network) (n : Network) (first behind : ℕ) (b : Network) : Type 0 where
  pub ordered : first ≤ behind
  pub within : behind ≤ length bs
  pub block : IsCidrBlock w b
  pub before : (k : ℕ) (d : Network) → k < first → high w (get_or bs k d) < b.address
  pub after : (k : ℕ) (d : Network) → behind ≤ k → k < length bs → high w b < (get_or bs k d).address
  pub union : (x : ℕ) → InEither w bs (n ∷ []) x
      ↔ (InUnion w (take first bs) x ⊎ (Member w b x ⊎ InUnion w (drop behind bs) x))

-- the parent of two halves is a block that begins with the first and ends with the second
wider_block : (w : ℕ) (a b : Network) → IsCidrBlock w a → IsCidrBlock w b → high w a < b.address → AreHalves w a b
    → IsCidrBlock w (parent w a)
wider_block w a b ha hb l s =
    let fits = ha.network.prefix_fits in
    record {
      network = (block_at_network w a.address (a.prefix - 1) ha.network.address_fits (omega arith)).network;
      block = block_begins w (record { address = a.address; prefix = a.prefix - 1 });
    }

wider_ends : (w : ℕ) (a b : Network) → IsCidrBlock w a → IsCidrBlock w b → high w a < b.address → AreHalves w a b
    → high w (parent w a) ≤ high w b
wider_ends w a b ha hb l s =
    let hw = wider_block w a b ha hb l s in
    let top : Member w (parent w a) (high w (parent w a)) = (has_ends w (parent w a) hw.network).high_is_member in
    let e = begins_before_end w b hb in
    ⊎_elim
    (λ (m : Member w a (high w (parent w a))). let i = member_ends w a (high w (parent w a)) m in
    omega (arith, i.1, l, e))
    (λ (m : Member w b (high w (parent w a))). (member_ends w b (high w (parent w a)) m).1)
    (((halves_join w a b ha hb l s).1 (high w (parent w a))).0 top)

module _ (w : ℕ) (bs : List Network) (n : Network) (law : AggregateIsApart) (h : IsAddressSet w bs)
    (nn : IsNetwork w n) where
  abbrev Here : ℕ → Network → Network
  Here k d = get_or bs k d

  abbrev Around : ℕ → ℕ → Network → List Network
  Around first behind b = take first bs ++ b ∷ drop behind bs

  joined : AreJoined w bs
  joined = set_is_joined w bs law h

  -- if the network does not lie in the set, a block that shares an address with it lies in it
  lies_in : ¬ (LiesInUnion w n bs) → (c : Network) → Contains bs c → IsNetwork w c → Overlap w c n → Subnet w c n
  lies_in new c held cn o =
      ⊎_elim
      (λ (s : Subnet w c n). s)
      (λ (s : Subnet w n c). let r : Subnet w c n = absurd (new (λ x m. (c, held, s x m))) in r)
      (nested w c n cn nn o)

  pub joining_begins : (from to : ℕ) → ¬ (LiesInUnion w n bs) → IsPlace w bs n from to
      → IsJoinedTo w bs n from to (block_of w n)
  joining_begins from to new place =
      let ordered = place.ordered in
      let within = place.within in
      record {
        ordered = ordered;
        within = within;
        block = record { network = block_fits_too w n nn; block = block_begins w n };
        before = place.before;
        after = λ k d le l.
            let same = block_high in
            let f = place.behind k d le l in
            omega (arith, same, f);
        union = λ x. (
          (λ o. ⊎_elim
              (λ (c : InUnion w bs x). ⊎_elim
              (λ (l : c.1.0 < from). inl (c.0, contains_front bs from c.1.0 c.0 l c.1.1 c.1.2, c.2))
              (λ (le : from ≤ c.1.0). ⊎_elim
              (λ (l : c.1.0 < to).
              let shared : Overlap w c.0 n =
              subst (λ (t : Network). Overlap w t n) c.1.2 (place.shared c.1.0 c.0 le l) in
              let hc : IsCidrBlock w c.0 = subst (λ (t : Network). IsCidrBlock w t) c.1.2
              (block_of_set w bs c.1.0 c.0 h c.1.1) in
              inr (inl ((block_same_set w n x).1 (lies_in new c.0 c.1 hc.network shared x c.2))))
              (λ (ge : to ≤ c.1.0). inr (inr (c.0, contains_back bs to c.1.0 c.0 ge c.1.1 c.1.2, c.2)))
              (cases_lt c.1.0 to))
              (cases_lt c.1.0 from))
              (λ (c : InUnion w (n ∷ []) x). inr (inl ((block_same_set w n x).1 ((union_of_one_network w n x).0 c))))
              o),
          (λ o. ⊎_elim
              (λ (c : InUnion w (take from bs) x). let a = at_front bs from c.0 c.1 in inl (c.0, (a.0, a.2, a.3), c.2))
              (λ (p : Member w (block_of w n) x ⊎ InUnion w (drop to bs) x). ⊎_elim
              (λ (m : Member w (block_of w n) x). inr ((union_of_one_network w n x).1 ((block_same_set w n x).0 m)))
              (λ (c : InUnion w (drop to bs) x). let a = at_back bs to c.0 c.1 in inl (c.0, (a.0, a.2, a.3), c.2)) p)
              o),
        );
      }
    where
      block_high : high w (block_of w n) ≡ high w n
      block_high =
          let same : (block_of w n).address ≡ low w (block_of w n) = block_begins w n in
          omega (arith, same)

  -- one more block before it is joined
  pub joining_before : (first behind : ℕ) (b wider : Network) → IsJoinedTo w bs n first behind b
      → JoinsBefore w bs first b wider → IsJoinedTo w bs n (first - 1) behind wider
  joining_before first behind b wider j s =
      let t : Network = Here (first - 1) b in
      let some = s.some in
      let ordered = j.ordered in
      let within = j.within in
      let fits : first - 1 < length bs = omega arith in
      let ht : IsCidrBlock w t = block_of_set w bs (first - 1) b h fits in
      let l : high w t < b.address = j.before (first - 1) b (omega arith) in
      let halves : AreHalves w t b = s.halves b in
      let both = halves_join w t b ht j.block l halves in
      let back : first - 1 + 1 ≡ first = omega arith in
      let more : take first bs ≡ take (first - 1) bs ++ t ∷ [] = ap (λ k. take k bs) (sym back)
      ∙ take_more bs (first - 1) b fits in
      let step : IsJoinedTo w bs n (first - 1) behind (parent w t) = record {
        ordered = omega arith;
        within = within;
        block = wider_block w t b ht j.block l halves;
        before = λ k d m.
            let f = law w bs bs h k (first - 1) d m fits in
            let same : Here (first - 1) d ≡ t = get_or_default bs (first - 1) d b fits in
            let at : (Here (first - 1) d).address ≡ t.address = ap (λ c. c.address) same in
            let begins = both.0 in
            omega (arith, f, at, begins);
        after = λ k d le m.
            let f = j.after k d le m in
            let e = wider_ends w t b ht j.block l halves in
            omega (arith, f, e);
        union = λ x. (
          (λ o. ⊎_elim
              (λ (c : InUnion w (take first bs) x). ⊎_elim
              (λ (d : InUnion w (take (first - 1) bs) x). inl d)
              (λ (m : Member w t x). inr (inl ((both.1 x).1 (inl m))))
              ((in_union_push w (take (first - 1) bs) t x).0 (subst (λ (r : List Network). InUnion w r x) more c)))
              (λ (p : Member w b x ⊎ InUnion w (drop behind bs) x). ⊎_elim
              (λ (m : Member w b x). inr (inl ((both.1 x).1 (inr m))))
              (λ (c : InUnion w (drop behind bs) x). inr (inr c)) p)
              ((j.union x).0 o)),
          (λ o. (j.union x).1 (⊎_elim
              (λ (c : InUnion w (take (first - 1) bs) x). inl (subst (λ (r : List Network). InUnion w r x) (sym more)
              ((in_union_push w (take (first - 1) bs) t x).1 (inl c))))
              (λ (p : Member w (parent w t) x ⊎ InUnion w (drop behind bs) x). ⊎_elim
              (λ (m : Member w (parent w t) x). ⊎_elim
              (λ (k : Member w t x). inl (subst (λ (r : List Network). InUnion w r x) (sym more)
              ((in_union_push w (take (first - 1) bs) t x).1 (inr k))))
              (λ (k : Member w b x). inr (inl k)) ((both.1 x).0 m))
              (λ (c : InUnion w (drop behind bs) x). inr (inr c)) p)
              o)),
        );
      } in
      subst (λ (v : Network). IsJoinedTo w bs n (first - 1) behind v) (sym (s.joined b)) step

  -- one more block after it is joined
  pub joining_behind : (first behind : ℕ) (b wider : Network) → IsJoinedTo w bs n first behind b
      → JoinsBehind w bs b behind wider → IsJoinedTo w bs n first (behind + 1) wider
  joining_behind first behind b wider j s =
      let t : Network = Here behind b in
      let some = s.some in
      let ordered = j.ordered in
      let ht : IsCidrBlock w t = block_of_set w bs behind b h some in
      let l : high w b < t.address = j.after behind b (omega arith) some in
      let halves : AreHalves w b t = s.halves b in
      let both = halves_join w b t j.block ht l halves in
      let more : drop behind bs ≡ t ∷ drop (behind + 1) bs = drop_more bs behind b some in
      let step : IsJoinedTo w bs n first (behind + 1) (parent w b) = record {
        ordered = omega arith;
        within = omega arith;
        block = wider_block w b t j.block ht l halves;
        before = λ k d m.
            let f = j.before k d m in
            let begins = both.0 in
            omega (arith, f, begins);
        after = λ k d le m.
            let f = law w bs bs h behind k d (omega arith) m in
            let same : Here behind d ≡ t = get_or_default bs behind d b some in
            let e = wider_ends w b t j.block ht l halves in
            let g : high w t < (Here k d).address = subst (λ (c : Network). high w c < (Here k d).address) same f in
            omega (arith, g, e);
        union = λ x. (
          (λ o. ⊎_elim
              (λ (c : InUnion w (take first bs) x). inl c)
              (λ (p : Member w b x ⊎ InUnion w (drop behind bs) x). ⊎_elim
              (λ (m : Member w b x). inr (inl ((both.1 x).1 (inl m))))
              (λ (c : InUnion w (drop behind bs) x). ⊎_elim
              (λ (m : Member w t x). inr (inl ((both.1 x).1 (inr m))))
              (λ (d : InUnion w (drop (behind + 1) bs) x). inr (inr d))
              ((union_cons w t (drop (behind + 1) bs) x).0 (subst (λ (r : List Network). InUnion w r x) more c))) p)
              ((j.union x).0 o)),
          (λ o. (j.union x).1 (⊎_elim
              (λ (c : InUnion w (take first bs) x). inl c)
              (λ (p : Member w (parent w b) x ⊎ InUnion w (drop (behind + 1) bs) x). inr (⊎_elim
              (λ (m : Member w (parent w b) x). ⊎_elim
              (λ (k : Member w b x). inl k)
              (λ (k : Member w t x). inr (subst (λ (r : List Network). InUnion w r x) (sym more)
              ((union_cons w t (drop (behind + 1) bs) x).1 (inl k))))
              ((both.1 x).0 m))
              (λ (c : InUnion w (drop (behind + 1) bs) x). inr (subst (λ (r : List Network). InUnion w r x) (sym more)
              ((union_cons w t (drop (behind + 1) bs) x).1 (inr c)))) p))
              o)),
        );
      } in
      subst (λ (v : Network). IsJoinedTo w bs n first (behind + 1) v) (sym s.joined) step

  -- if neither the block before nor the one after is the other half, the list is that of the set with the network added
  pub joining_ends : (first behind : ℕ) (b : Network) → IsJoinedTo w bs n first behind b → NoHalfBefore w bs first b
      → NoHalfBehind w bs b behind
      → IsLeastList w (InEither w bs (n ∷ [])) (take first bs ++ b ∷ drop behind bs)
  joining_ends first behind b j none_before none_behind =
      least_of_same w (InUnion w (Around first behind b)) (InEither w bs (n ∷ [])) (Around first behind b)
      (λ x. (
        (λ c. (j.union x).1 (⊎_elim
            (λ (d : InUnion w (take first bs) x). inl d)
            (λ (d : InUnion w (b ∷ drop behind bs) x). inr ((union_cons w b (drop behind bs) x).0 d))
            ((union_append w (take first bs) (b ∷ drop behind bs) x).0 c))),
        (λ o. (union_append w (take first bs) (b ∷ drop behind bs) x).1 (⊎_elim
            (λ (d : InUnion w (take first bs) x). inl d)
            (λ (p : Member w b x ⊎ InUnion w (drop behind bs) x). inr ((union_cons w b (drop behind bs) x).1 p))
            ((j.union x).0 o))),
      ))
      (joined_is_set w (Around first behind b) all)
    where
      alone : AreJoined w (b ∷ [])
      alone = record {
        blocks = λ k d l. let e : 0 ≡ k = omega arith in
            subst (λ (i : ℕ). IsCidrBlock w (get_or (b ∷ []) i d)) e j.block;
        pairs = λ i k d l m. absurd (omega arith);
      }

      -- the block `b` follows each block of the front
      front : (a : Network) → Contains (take first bs) a → Follows w a b
      front a c =
          let p = at_front bs first a c in
          let ha : IsCidrBlock w a = subst (λ (t : Network). IsCidrBlock w t) p.3 (block_of_set w bs p.0 a h p.2) in
          let l : high w a < b.address = subst (λ (t : Network). high w t < b.address) p.3 (j.before p.0 a p.1) in
          let ordered = j.ordered in
          let within = j.within in
          let less = p.1 in (
            l,
            λ s. ⊎_elim
                (λ (m : p.0 < first - 1).
                let fits : first - 1 < length bs = omega arith in
                let f : high w (Here p.0 a) < (Here (first - 1) a).address = law w bs bs h p.0 (first - 1) a m fits in
                let g : high w a < (Here (first - 1) a).address =
                subst (λ (t : Network). high w t < (Here (first - 1) a).address) p.3 f in
                nothing_between w a (Here (first - 1) a) b ha (block_of_set w bs (first - 1) a h fits) j.block g
                (j.before (first - 1) a (omega arith)) s)
                (λ (le : first - 1 ≤ p.0).
                let e : p.0 ≡ first - 1 = omega arith in
                let here : a ≡ Here (first - 1) a = sym p.3 ∙ ap (λ k. Here k a) e in
                none_before a (omega arith) (subst (λ (t : Network). AreHalves w t b) here s))
                (cases_lt p.0 (first - 1)),
          )

      back : (c : Network) → Contains (drop behind bs) c → Follows w b c
      back c held =
          let p = at_back bs behind c held in
          let hc : IsCidrBlock w c = subst (λ (t : Network). IsCidrBlock w t) p.3 (block_of_set w bs p.0 c h p.2) in
          let l : high w b < c.address = subst (λ (t : Network). high w b < t.address) p.3 (j.after p.0 c p.1 p.2) in
          let le = p.1 in
          let fits = p.2 in (
            l,
            λ s. ⊎_elim
                (λ (m : behind < p.0).
                let f : high w (Here behind c) < (Here p.0 c).address = law w bs bs h behind p.0 c m p.2 in
                let g : high w (Here behind c) < c.address =
                subst (λ (t : Network). high w (Here behind c) < t.address) p.3 f in
                let some : behind < length bs = omega arith in
                nothing_between w b (Here behind c) c j.block (block_of_set w bs behind c h some) hc
                (j.after behind c (omega arith) some) g s)
                (λ (ge : p.0 ≤ behind).
                let e : p.0 ≡ behind = omega arith in
                let here : c ≡ Here behind c = sym p.3 ∙ ap (λ k. Here k c) e in
                none_behind c (omega arith) (subst (λ (t : Network). AreHalves w b t) here s))
                (cases_lt behind p.0),
          )

      -- each block of the back follows each block of the front
      over : (a c : Network) → Contains (take first bs) a → Contains (drop behind bs) c → Follows w a c
      over a c in_front in_back =
          let p = at_front bs first a in_front in
          let q = at_back bs behind c in_back in
          let ordered = j.ordered in
          let less = p.1 in
          let le = q.1 in
          let f : Follows w (Here p.0 a) (Here q.0 a) = joined.pairs p.0 q.0 a (omega arith) q.2 in
          let same : Here q.0 a ≡ c = get_or_default bs q.0 a c q.2 ∙ q.3 in
          subst (λ (t : Network). Follows w t c) p.3 (subst (λ (t : Network). Follows w (Here p.0 a) t) same f)

      all : AreJoined w (Around first behind b)
      all =
          joined_append w (take first bs) (b ∷ drop behind bs) (joined_take w first bs joined)
          (joined_append w (b ∷ []) (drop behind bs) alone (joined_drop w behind bs joined)
          (λ a c ca cc. ⊎_elim
          (λ (e : b ≡ a). subst (λ (t : Network). Follows w t c) e (back c cc))
          (λ (d : Contains [] a). let l = d.1 in absurd (omega arith)) (contains_cons b [] a ca)))
          (λ a c ca cc. ⊎_elim
          (λ (e : b ≡ c). subst (λ (t : Network). Follows w a t) e (front a ca))
          (λ (d : Contains (drop behind bs) c). over a c ca d) (contains_cons b (drop behind bs) c cc))

-- ---- the results of the two steps

pub told_before : {X : Type 0} (pair : X → Network) (w : ℕ) (bs : List Network) (first : ℕ) (t b : Network)
    (found : Option X) → 0 < first → first ≤ length bs → t ≡ get_or bs (first - 1) t
    → MatchOption found (¬ (AreHalves w t b)) (λ x. AreHalves w t b × (pair x ≡ parent w t))
    → MatchOption found (NoHalfBefore w bs first b) (λ x. JoinsBefore w bs first b (pair x))
told_before pair w bs first t b None some fits is none = λ d more s.
    let same : get_or bs (first - 1) d ≡ t = get_or_default bs (first - 1) d t (omega arith) ∙ sym is in
    none (subst (λ (n : Network). AreHalves w n b) same s)
told_before pair w bs first t b (Some x) some fits is found =
    let same : (d : Network) → t ≡ get_or bs (first - 1) d = λ d. is
    ∙ get_or_default bs (first - 1) t d (omega arith) in
    record {
      some = some;
      halves = λ d. subst (λ (n : Network). AreHalves w n b) (same d) found.0;
      joined = λ d. found.1 ∙ ap (parent w) (same d);
    }

pub told_behind : {X : Type 0} (pair : X → Network) (w : ℕ) (bs : List Network) (behind : ℕ) (b t : Network)
    (found : Option X) → behind < length bs → t ≡ get_or bs behind t
    → MatchOption found (¬ (AreHalves w b t)) (λ x. AreHalves w b t × (pair x ≡ parent w b))
    → MatchOption found (NoHalfBehind w bs b behind) (λ x. JoinsBehind w bs b behind (pair x))
told_behind pair w bs behind b t None some is none = λ d more s.
    let same : get_or bs behind d ≡ t = get_or_default bs behind d t some ∙ sym is in
    none (subst (λ (n : Network). AreHalves w b n) same s)
told_behind pair w bs behind b t (Some x) some is found =
    let same : (d : Network) → t ≡ get_or bs behind d = λ d. is ∙ get_or_default bs behind t d some in
    record {
      some = some;
      halves = λ d. subst (λ (n : Network). AreHalves w b n) (same d) found.0;
      joined = found.1;
    }
