-- The position of an address in the list of a set, and what follows for the set.
use Rattle.ipnetwork_c.proofs.Words.{◌≡◌, ◌↔◌, ℕ, ◌+◌, ◌-◌, ◌<◌, ◌≤◌, ⊎_elim, List, length, map, get_or, Bool, true, false, IsTrue, refl, sym, ap, subst, ◌∙◌, arith, from_bool, AllPairs, length-map, Network, Member, AggregateHasOneBlock, read_map, NoneUpTo, IsLastUpTo, IsSplitAt, split_none_at, split_last, none_holds, holds_by_last, slice_get, Some, cases_lt, get_or_from_slice_get, slice_get-get_or, slice_get_within, slice_get_read, PrefixFits, StandsAt, LastFits, FindsIn, SetQuery, On, Nothing, EndFits, EndDoesNotFit, LastUpTo, NextAfter, IsBetween}
use Rattle.ipnetwork_c.proofs.Truths.{no_true}

pub none_up_to : (ns : List Network) (x : ℕ) → IsSplitAt ns x 0 0 → NoneUpTo ns x
none_up_to ns x h = split_none_at ns x 0 0 h refl (omega arith)

pub last_up_to : (ns : List Network) (x i : ℕ) (b : Network) → AllPairs (λ a b. a.address < b.address) ns
    → IsSplitAt ns x i i → 0 < i → b ≡ get_or ns (i - 1) b → IsLastUpTo ns x b
last_up_to ns x i b up h some is = split_last ns x i i b up h (omega arith) some is

-- none of the networks begins at or before the address
pub finds_none : (w : ℕ) (ns : List Network) (x : ℕ) → AggregateHasOneBlock
    → (AllPairs (λ a b. a.address < b.address) ns → IsSplitAt ns x 0 0) → FindsIn w ns x 0
finds_none w ns x one split = record {
  flag = omega arith;
  found = λ e. absurd (omega (arith, e));
  missed = λ set z. none_holds w ns one set x x (none_up_to ns x (split set.ascending)) (omega arith);
}

-- the last network that does was checked
pub finds_last : (w : ℕ) (ns : List Network) (x i : ℕ) (b : Network) (has : Bool) (byte : ℕ) → AggregateHasOneBlock
    → (AllPairs (λ a b. a.address < b.address) ns → IsSplitAt ns x i i)
    → 0 < i → i ≤ length ns → b ≡ get_or ns (i - 1) b → (IsTrue has ↔ Member w b x) → byte ≡ from_bool has
    → FindsIn w ns x byte
finds_last w ns x i b true byte one split some within is has told = record {
  flag = omega (arith, told);
  found = λ e. (b, (i - 1, omega arith, sym is), has.0 refl);
  missed = λ set z. absurd (omega (arith, told, z));
}
finds_last w ns x i b false byte one split some within is has told = record {
  flag = omega (arith, told);
  found = λ e. absurd (omega (arith, told, e));
  missed = λ set z u. no_true
      (has.1 ((holds_by_last w ns one set x b (last_up_to ns x i b set.ascending (split set.ascending) some is)).1 u));
}

-- ---- the position of a search in any list

pub the_one : (ns : List Network) (k : ℕ) (b n : Network) → b ≡ get_or ns k b → slice_get ns k ≡ Some n → b ≡ n
the_one ns k b n is got = is ∙ get_or_from_slice_get ns k n b got

pub between_behind : (ns : List Network) (x from to middle : ℕ) (b : Network) → IsBetween ns x from to
    → b ≡ get_or ns middle b → b.address ≤ x → IsBetween ns x (middle + 1) to
between_behind ns x from to middle b h is begins = record {
  last = λ n some got.
      let e : middle + 1 - 1 ≡ middle = omega arith in
      let same = ap (λ (m : Network). m.address)
      (the_one ns middle b n is (subst (λ (k : ℕ). slice_get ns k ≡ Some n) e got)) in
      omega (arith, same, begins);
  next = h.next;
}

pub between_before : (ns : List Network) (x from to middle : ℕ) (b : Network) → IsBetween ns x from to
    → b ≡ get_or ns middle b → x < b.address → IsBetween ns x from middle
between_before ns x from to middle b h is begins = record {
  last = h.last;
  next = λ n got.
      let same = ap (λ (m : Network). m.address) (the_one ns middle b n is got) in
      omega (arith, same, begins);
}

pub between_met : (ns : List Network) (x from to : ℕ) → IsBetween ns x from to → from ≤ to → to ≤ from → to ≤ length ns
    → StandsAt ns x from
between_met ns x from to h ordered met within =
    let e : to ≡ from = omega arith in
    record {
      within = omega arith;
      last = h.last;
      next =
          subst (λ (k : ℕ). (n : Network) → slice_get ns k ≡ Some n → x < n.address) e h.next;
    }

-- if the addresses ascend, all other networks are on the side of their neighbour
pub stands_split : (ns : List Network) (x i : ℕ) → StandsAt ns x i → AllPairs (λ a b. a.address ≤ b.address) ns
    → IsSplitAt ns x i i
stands_split ns x i s up =
    let within = s.within in
    record {
      ordered = omega arith;
      within = within;
      below = λ k d l.
          let last : (get_or ns (i - 1) d).address ≤ x =
          s.last (get_or ns (i - 1) d) (omega arith) (slice_get-get_or ns (i - 1) d (omega arith)) in
          ⊎_elim
          (λ (less : k < i - 1). let o : (get_or ns k d).address ≤ (get_or ns (i - 1) d).address =
          up k (i - 1) d less (omega arith) in omega arith)
          (λ (ge : i - 1 ≤ k).
          let e : i - 1 ≡ k = omega arith in
          subst (λ (j : ℕ). (get_or ns j d).address ≤ x) e last)
          (cases_lt k (i - 1));
      above = λ k d le l.
          let next : x < (get_or ns i d).address = s.next (get_or ns i d) (slice_get-get_or ns i d (omega arith)) in
          ⊎_elim
          (λ (more : i < k). let o : (get_or ns i d).address ≤ (get_or ns k d).address = up i k d more l in omega arith)
          (λ (ge : k ≤ i).
          let e : i ≡ k = omega arith in
          subst (λ (j : ℕ). x < (get_or ns j d).address) e next)
          (cases_lt i k);
    }

-- ---- what is known of a neighbour that was read

pub last_at : (ns : List Network) (x i k : ℕ) (n : Network) → i ≡ k + 1 → n ≡ get_or ns k n → n.address ≤ x
    → LastUpTo ns x i
last_at ns x i k n e is begins m some got =
    let at : i - 1 ≡ k = omega arith in
    let same = ap (λ (o : Network). o.address) (the_one ns k n m is (subst (λ (j : ℕ). slice_get ns j ≡ Some m) at got))
    in
    omega (arith, same, begins)

pub next_at : (ns : List Network) (x i k : ℕ) (n : Network) → i ≡ k → n ≡ get_or ns k n → x < n.address
    → NextAfter ns x i
next_at ns x i k n e is later m got =
    let same = ap (λ (o : Network). o.address) (the_one ns k n m is (subst (λ (j : ℕ). slice_get ns j ≡ Some m) e got))
    in
    omega (arith, same, later)

-- there is nothing before the first network, and nothing after the last
pub none_last : (ns : List Network) (x i : ℕ) → i ≡ 0 → LastUpTo ns x i
none_last ns x i e m some got = absurd (omega (arith, e, some))

pub none_next : {X : Type 0} (held : X → Network) (list : List X) (x i : ℕ) → i ≡ length list
    → NextAfter (map held list) x i
none_next held list x i e m got =
    let l = slice_get_within (map held list) i m got in
    let size = length-map list held in
    absurd (omega (arith, e, l, size))

-- the last of the first `end` values, and the network that it holds
pub last_held : {C : Type 0} (held : C → Network) (list : List C) (end : ℕ) (value : C) → 0 < end → end ≤ length list
    → value ≡ get_or list (end - 1) value → (end ≤ length (map held list))
    × (held value ≡ get_or (map held list) (end - 1) (held value))
last_held held list end value some within is = let size = length-map list held in
    (omega (arith, size, within), read_map held list (end - 1) value (omega arith) is)

-- the last network fits if the one that was read there fits
pub last_fits : (w : ℕ) (ns : List Network) (i : ℕ) (b : Network) → b ≡ get_or ns (i - 1) b → PrefixFits w b
    → LastFits w ns i
last_fits w ns i b is fits n some got = subst (PrefixFits w) (the_one ns (i - 1) b n is got) fits

-- the last network does not fit if the one that was read there does not
pub last_does_not_fit : (w : ℕ) (ns : List Network) (i : ℕ) (b : Network) → 0 < i → i ≤ length ns
    → b ≡ get_or ns (i - 1) b → ¬ (PrefixFits w b) → ¬ (LastFits w ns i)
last_does_not_fit w ns i b some within is not h =
    not (h b some (slice_get_read ns (length ns) (i - 1) b refl (omega arith) is))

-- there is nothing before the first network
pub none_fits : (w : ℕ) (ns : List Network) (i : ℕ) → i ≡ 0 → LastFits w ns i
none_fits w ns i none n some got = absurd (omega arith)

-- what a search writes about an address
pub set_answered : {C : Type 0} (w : ℕ) (held : C → Network) (list : List C) (x before after : ℕ)
    → EndFits w (map held list) x → FindsIn w (map held list) x after → SetQuery w held list x before after 0
set_answered w held list x before after ends finds = (ends.0, ends.1, On (ends.2, (refl, finds)))

pub set_refused : {C : Type 0} (w : ℕ) (held : C → Network) (list : List C) (x before : ℕ)
    → EndDoesNotFit w (map held list) x → SetQuery w held list x before before 3
set_refused w held list x before ends = (ends.0, ends.1, Nothing (ends.2, refl) refl)
