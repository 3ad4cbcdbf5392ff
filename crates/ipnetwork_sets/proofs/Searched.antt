-- The binary search, and what the block that it finds shows of an address and a network.
use Rattle.ipnetwork_sets.proofs.Words.{◌≡◌, ◌↔◌, ℕ, ◌-◌, ◌<◌, ◌≤◌, ◌⊎◌, inl, inr, sym, refl, ap, subst, ◌∙◌, arith, ⊎_elim, Bool, true, false, IsTrue, List, [], ◌∷◌, length, map, get_or, nat_le, IsNonDecreasingBy, IsPartitionPoint, cases_lt, cases_order, iff_false, le-leb, lt-leb, leb-true, leb-false, get_or_default, get_or-map, length-map, AllPairs, Contains, Network, IsNetwork, Member, Subnet, Overlap, low, high, size_pos, has_ends, within_member, member_within, IsMaximalIn, InUnion, LiesInUnion, AggregateHasOneBlock, AggregateHasNetworks, IsAddressSet, MeetsUnion, NoneUpTo, IsLastUpTo, IsSplitAt}
use Rattle.ipnetwork_sets.proofs.Lists.{not_below}

-- ---- the blocks up to an address come first

-- a list in strictly ascending order is in ascending order
pub weakly : (ns : List Network) → AllPairs (λ a b. a.address < b.address) ns
    → AllPairs (λ a b. a.address ≤ b.address) ns
weakly ns up i j d l m = let f : (get_or ns i d).address < (get_or ns j d).address = up i j d l m in omega arith

-- the result of a test is a comparison of numbers
pub told : (begins : Bool) (a x : ℕ) → IsTrue begins ↔ (a ≤ x) → begins ≡ nat_le a x
told true a x iff = sym (le-leb a x (iff.0 refl))
told false a x iff = sym (lt-leb a x (not_below a x (iff_false iff refl)))

pub not_falling : {B : Type 0} (pair : B → Network) (blocks : List B)
    → AllPairs (λ a b. a.address < b.address) (map pair blocks)
    → IsNonDecreasingBy (λ b. (pair b).address) blocks
not_falling pair blocks up i j d le fits = ⊎_elim
    (λ (less : i < j).
    let f = up i j (pair d) less (omega (arith, length-map blocks pair, fits)) in
    let first = ap (λ n. n.address) (get_or-map pair blocks i d (pair d) (omega (arith, less, fits))) in
    let second = ap (λ n. n.address) (get_or-map pair blocks j d (pair d) fits) in
    omega (arith, f, first, second))
    (λ (not_less : j ≤ i).
    let same : i ≡ j = omega (arith, le, not_less) in
    let equal = ap (λ k. (pair (get_or blocks k d)).address) same in
    omega (arith, equal))
    (cases_lt i j)

pub splits : {B : Type 0} (pair : B → Network) (blocks : List B) (x at : ℕ) → at ≤ length blocks
    → IsPartitionPoint (λ b. nat_le (pair b).address x ≡ true) (λ b. nat_le (pair b).address x ≡ false) blocks at
    → IsSplitAt (map pair blocks) x at at
splits pair [] x at fits point = record {
  ordered = omega arith;
  within = fits;
  below = λ k d l. absurd (omega (arith, fits, l));
  above = λ k d l m. absurd (omega (arith, m));
}
splits pair (b ∷ bs) x at fits point =
    let blocks = b ∷ bs in
    let size = length-map blocks pair in
    record {
      ordered = omega arith;
      within = omega (arith, size, fits);
      below = λ k d l.
          let here = ap (λ n. n.address) (get_or-map pair blocks k b d (omega (arith, fits, l))) in
          let e = leb-true (pair (get_or blocks k b)).address x (point.0 k b (omega arith) l) in
          omega (arith, here, e);
      above = λ k d l m.
          let short : k < length blocks = omega (arith, size, m) in
          let here = ap (λ n. n.address) (get_or-map pair blocks k b d short) in
          let e = leb-false (pair (get_or blocks k b)).address x (point.1 k b l short) in
          omega (arith, here, e);
    }

-- the search ends where the two indices meet
split_none : (blocks : List Network) (x to : ℕ) → IsSplitAt blocks x 0 to → to ≤ 0 → NoneUpTo blocks x
split_none blocks x to h l b c =
    let f = h.above c.0 b (omega arith) c.1 in
    subst (λ (n : Network). x < n.address) c.2 f

pub split_none_at : (blocks : List Network) (x from to : ℕ) → IsSplitAt blocks x from to → from ≡ 0 → to ≤ from
    → NoneUpTo blocks x
split_none_at blocks x from to h e l = split_none blocks x to (subst (λ (k : ℕ). IsSplitAt blocks x k to) e h)
    (omega arith)

pub split_last : (blocks : List Network) (x from to : ℕ) (b : Network) → AllPairs (λ a b. a.address < b.address) blocks
    → IsSplitAt blocks x from to
    → to ≤ from → 0 < from → b ≡ get_or blocks (from - 1) b → IsLastUpTo blocks x b
split_last blocks x from to b up h le some is =
    let within = h.within in
    let ordered = h.ordered in
    record {
      one = (from - 1, omega arith, sym is);
      begins = subst (λ (n : Network). n.address ≤ x) (sym is) (h.below (from - 1) b (omega arith));
      others = λ c held begins.
          let k : ℕ = held.0 in
          let fits : k < length blocks = held.1 in
          let at : (get_or blocks k c).address ≡ c.address = ap (λ n. n.address) held.2 in
          let here : get_or blocks (from - 1) c ≡ b = get_or_default blocks (from - 1) c b (omega arith) ∙ sym is in
          let top : (get_or blocks (from - 1) c).address ≡ b.address = ap (λ n. n.address) here in
          ⊎_elim
          (λ (e : k ≡ from - 1). let same : (get_or blocks k c).address ≡ (get_or blocks (from - 1) c).address =
          ap (λ j. (get_or blocks j c).address) e in omega arith)
          (λ (o : (k < from - 1) ⊎ (from - 1 < k)). ⊎_elim
          (λ (l : k < from - 1). let f : (get_or blocks k c).address < (get_or blocks (from - 1) c).address =
          up k (from - 1) c l (omega arith) in omega arith)
          (λ (l : from - 1 < k). let f : x < (get_or blocks k c).address = h.above k c (omega arith) fits in
          absurd (omega arith)) o)
          (cases_order k (from - 1));
    }

-- ---- the block `c` has the address y, and `last` is the last block that begins at or before x

module _ (w : ℕ) (bs : List Network) (one : AggregateHasOneBlock) (h : IsAddressSet w bs) where
  is_maximal : (b : Network) → Contains bs b → IsMaximalIn w (InUnion w bs) b
  is_maximal b c = (h.maximal b).0 c

  -- `last` has the address y, or begins after it
  up_to : (x y : ℕ) (last c : Network) → IsLastUpTo bs x last → Contains bs c → Member w c y → y ≤ x
      → Member w last y ⊎ (y < last.address)
  up_to x y last c is held m le =
      ⊎_elim
      (λ (before : y < last.address). inr before)
      (λ (from : last.address ≤ y).
      let mc : IsMaximalIn w (InUnion w bs) c = is_maximal c held in
      let ml : IsMaximalIn w (InUnion w bs) last = is_maximal last is.one in
      let i = within_member w c y m in
      let begin : c.address ≤ x = omega (arith, i.0, mc.block) in
      let order : c.address ≤ last.address = is.others c held begin in
      let inside : Member w c last.address = member_within w c mc.network last.address (omega (arith, mc.block))
      (omega (arith, i.1)) in
      let own : Member w last last.address = (ml.network.address_fits, refl) in
      let same : c ≡ last = one w bs bs c last last.address h held is.one inside own in
      inl (subst (λ (n : Network). Member w n y) same m))
      (cases_lt y last.address)

  pub none_holds : (x y : ℕ) → NoneUpTo bs x → y ≤ x → ¬ (InUnion w bs y)
  none_holds x y none le c =
      let mc : IsMaximalIn w (InUnion w bs) c.0 = is_maximal c.0 c.1 in
      let i = within_member w c.0 y c.2 in
      let after = none c.0 c.1 in
      omega (arith, i.0, mc.block)

  pub holds_by_last : (x : ℕ) (last : Network) → IsLastUpTo bs x last → Member w last x ↔ InUnion w bs x
  holds_by_last x last is = (
    (λ m. (last, is.one, m)),
    (λ c. ⊎_elim (λ (m : Member w last x). m)
        (λ (l : x < last.address). let from = is.begins in let r : Member w last x = absurd (omega arith) in r)
        (up_to x x last c.0 is c.1 c.2 (omega arith))),
  )

  pub covers_by_last : (n last : Network) → AggregateHasNetworks → IsNetwork w n → IsLastUpTo bs (low w n) last
      → Subnet w n last ↔ LiesInUnion w n bs
  covers_by_last n last networks nn is = (
    (λ s x m. (last, is.one, s x m)),
    (λ lies.
        let o = (networks w bs bs h n nn).0 lies in
        let first : Member w n (low w n) = (has_ends w n nn).low_is_member in
        let inside : Member w o.0 (low w n) = o.2 (low w n) first in
        let ml : IsMaximalIn w (InUnion w bs) last = is_maximal last is.one in
        let r : Member w last (low w n) = (holds_by_last (low w n) last is).1 (o.0, o.1, inside) in
        let same : o.0 ≡ last = one w bs bs o.0 last (low w n) h o.1 is.one inside r in
        subst (λ (b : Network). Subnet w n b) same o.2),
  )

  pub covers_none : (n : Network) → IsNetwork w n → NoneUpTo bs (low w n) → ¬ (LiesInUnion w n bs)
  covers_none n nn none lies = none_holds (low w n) (low w n) none (omega arith)
      (lies (low w n) (has_ends w n nn).low_is_member)

  pub overlaps_by_last : (n last : Network) → IsNetwork w n → IsLastUpTo bs (high w n) last
      → Overlap w n last ↔ MeetsUnion w n bs
  overlaps_by_last n last nn is = (
    (λ o. (o.0, o.1, (last, is.one, o.2))),
    (λ m.
        let y : ℕ = m.0 in
        let ml : IsMaximalIn w (InUnion w bs) last = is_maximal last is.one in
        let own : Member w last last.address = (ml.network.address_fits, refl) in
        let i = within_member w n y m.1 in
        let pos = size_pos w n.prefix in
        let begins = is.begins in
        ⊎_elim
        (λ (k : Member w last y). (y, m.1, k))
        (λ (l : y < last.address).
        (last.address, member_within w n nn last.address (omega (arith, i.0)) (omega arith), own))
        (up_to (high w n) y last m.2.0 is m.2.1 m.2.2 (omega (arith, i.1)))),
  )

  pub overlaps_none : (n : Network) → IsNetwork w n → NoneUpTo bs (high w n) → ¬ (MeetsUnion w n bs)
  overlaps_none n nn none m =
      let i = within_member w n m.0 m.1 in
      let pos = size_pos w n.prefix in
      none_holds (high w n) m.0 none (omega (arith, i.1)) m.2
