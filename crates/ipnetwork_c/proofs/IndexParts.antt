-- Parts of the numbers, and how many networks of a list begin before a part.
use Rattle.ipnetwork_c.proofs.Words.{◌≡◌, ◌↔◌, ℕ, suc, ◌+◌, ◌-◌, ◌*◌, ◌/◌, ◌^◌, ◌<◌, ◌≤◌, ⊎_elim, List, length, map, get_or, ap, sym, subst, ◌∙◌, arith, min, slice_get, Some, cases_lt, pow_pos, div_below, le-div, get_or_default, length-map, slice_get_within, mul-le-mul_right, two-pow-succ, Network, read_map, address_at, span, AreLeastParts, BeginBefore, IsIndexOf, LastBefore, HasStarts}
use Rattle.std.specs.Prelude.{slice_set}
use Rattle.std.proofs.lemmas.List.{get_or-set_same, get_or-set_other}
use Rattle.ipnetwork_c.proofs.Searching.{the_one}

-- ---- the part in which a number lies

part_size : (shift part : ℕ) → 1 ≤ part → 2 ^ shift ≤ part * 2 ^ shift
part_size shift part some =
    let e : 1 * 2 ^ shift ≤ part * 2 ^ shift = mul-le-mul_right (2 ^ shift) some in
    omega arith

-- a number lies before a part exactly if it is less than each number of the part
pub lies_before : (a base shift own part : ℕ) → own ≡ min ((a - base) / 2 ^ shift) 18446744073709551615 → 1 ≤ part
    → part ≤ 18446744073709551615 → (own < part) ↔ (a < base + part * 2 ^ shift)
lies_before a base shift own part is some few =
    let pos : 0 < 2 ^ shift = pow_pos shift in
    let size : 2 ^ shift ≤ part * 2 ^ shift = part_size shift part some in (
      (λ (less : own < part).
          ⊎_elim
          (λ (l : a - base < part * 2 ^ shift). let r : a < base + part * 2 ^ shift = omega arith in r)
          (λ (ge : part * 2 ^ shift ≤ a - base).
          let most : part ≤ (a - base) / 2 ^ shift = le-div part (a - base) (2 ^ shift) pos ge in
          absurd (omega arith))
          (cases_lt (a - base) (part * 2 ^ shift))),
      (λ (l : a < base + part * 2 ^ shift).
          let below : (a - base) / 2 ^ shift < part = div_below (a - base) (2 ^ shift) part pos (omega arith) in
          omega arith),
    )

-- ---- the size of the parts

-- the address of a struct of a list
pub own_is : {X : Type 0} (held : X → Network) (list : List X) (k : ℕ) (x : X) → k < length list → x ≡ get_or list k x
    → (held x).address ≡ address_at (map held list) k
own_is held list k x l is =
    let none : Network = record { address = 0; prefix = 0 } in
    let size = length-map list held in
    let at : held x ≡ get_or (map held list) k (held x) = read_map held list k x l is in
    ap (λ (n : Network). n.address) (at ∙ get_or_default (map held list) k (held x) none (omega (arith, l, size)))

-- the difference between the last and the first address
pub span_is : {X : Type 0} (held : X → Network) (list : List X) (first last : X) (a b : ℕ) → 1 ≤ length list
    → first ≡ get_or list 0 first → last ≡ get_or list (length list - 1) last
    → a ≡ (held first).address → b ≡ (held last).address → b - a ≡ span (map held list)
span_is held list first last a b some first_is last_is a_is b_is =
    let ns : List Network = map held list in
    let from : a ≡ address_at ns 0 = a_is ∙ own_is held list 0 first (omega arith) first_is in
    let to : b ≡ address_at ns (length list - 1) = b_is
    ∙ own_is held list (length list - 1) last (omega arith) last_is in
    subst (λ (k : ℕ). b - a ≡ address_at ns (k - 1) - address_at ns 0) (sym (length-map list held))
    (omega (arith, from, to))

-- one part of all numbers covers each list
pub parts_all : (ns : List Network) (w count half : ℕ) → half + 1 ≡ w → span ns < 2 ^ w → 1 ≤ count
    → ((smaller : ℕ) → smaller < half + 1 → count ≤ span ns / 2 ^ smaller) → AreLeastParts ns count (half + 1)
parts_all ns w count half e small some more =
    let one : span ns / 2 ^ w < 1 = div_below (span ns) (2 ^ w) 1 (pow_pos w) (omega arith) in
    record { enough = subst (λ (k : ℕ). span ns / 2 ^ k < count) (sym e) (omega arith); least = more }

-- two parts of half of all numbers cover each list too
pub two_halves : (ns : List Network) (w count half : ℕ) → half + 1 ≡ w → span ns < 2 ^ w
    → count ≤ span ns / 2 ^ half → count < 2
two_halves ns w count half e small least =
    let pos : 0 < 2 ^ half = pow_pos half in
    let is : w ≡ suc half = omega arith in
    let whole : 2 ^ w ≡ 2 ^ half + 2 ^ half = ap (λ k. 2 ^ k) is ∙ two-pow-succ half in
    let two : span ns / 2 ^ half < 2 = div_below (span ns) (2 ^ half) 2 pos (omega arith) in
    omega arith

-- ---- how many networks begin before a part

pub before_more : (ns : List Network) (number at : ℕ) (n : Network) → LastBefore ns number at → at < length ns
    → n ≡ get_or ns at n → n.address < number → LastBefore ns number (at + 1)
before_more ns number at n h l is less = record {
  within = omega arith;
  last = λ m some got.
      let e : at + 1 - 1 ≡ at = omega arith in
      let same = ap (λ (o : Network). o.address)
      (the_one ns at n m is (subst (λ (j : ℕ). slice_get ns j ≡ Some m) e got)) in
      omega (arith, same, less);
}

pub before_all : (ns : List Network) (number at : ℕ) → LastBefore ns number at → length ns ≤ at
    → BeginBefore ns number at
before_all ns number at h all = record {
  within = h.within;
  last = h.last;
  next = λ m got. let l = slice_get_within ns at m got in absurd (omega arith);
}

-- ---- the index, number by number

pub starts_none : (ns : List Network) (index : List ℕ) (shift : ℕ) → 0 < length index
    → HasStarts ns (slice_set index 0 shift) shift 1 0
starts_none ns index shift some = record {
  first = get_or-set_same index 0 shift 0 some;
  starts = λ one more less. absurd (omega arith);
  at_least = record { within = omega arith; last = λ n none got. absurd (omega arith) };
}

pub starts_more : (ns : List Network) (index : List ℕ) (shift part before at start : ℕ)
    → HasStarts ns index shift part before → 1 ≤ part → part < length index
    → BeginBefore ns (address_at ns 0 + part * 2 ^ shift) at → start ≡ min at 4294967295
    → HasStarts ns (slice_set index part start) shift (part + 1) at
starts_more ns index shift part before at start h some room begins is =
    let grows : part * 2 ^ shift ≤ (part + 1) * 2 ^ shift = mul-le-mul_right (2 ^ shift) (omega arith) in
    record {
      first = get_or-set_other index part 0 start 0 (λ e. omega (arith, e, some)) ∙ h.first;
      starts = λ one more less. ⊎_elim
          (λ (early : one < part).
          let own = h.starts one more early in
          (own.0, own.1, get_or-set_other index part one start 0 (λ e. omega (arith, e, early)) ∙ own.2))
          (λ (late : part ≤ one).
          let e : part ≡ one = omega arith in
          subst (λ (k : ℕ). (i : ℕ) × BeginBefore ns (address_at ns 0 + k * 2 ^ shift) i
          × (get_or (slice_set index part start) k 0 ≡ min i 4294967295)) e
          (at, begins, get_or-set_same index part start 0 room ∙ is))
          (cases_lt one part);
      at_least = record {
        within = begins.within;
        last = λ n any got. let l = begins.last n any got in omega arith;
      };
    }

pub index_made : (ns : List Network) (index : List ℕ) (shift part at : ℕ) → HasStarts ns index shift part at
    → length index ≤ part → AreLeastParts ns (length index) shift → IsIndexOf ns index
index_made ns index shift part at h all parts = record {
  size = λ some. subst (λ (k : ℕ). AreLeastParts ns (length index) k) (sym h.first) parts;
  starts = λ one more less. subst (λ (k : ℕ). (i : ℕ) × BeginBefore ns (address_at ns 0 + one * 2 ^ k) i
      × (get_or index one 0 ≡ min i 4294967295)) (sym h.first) (h.starts one more (omega arith));
}
