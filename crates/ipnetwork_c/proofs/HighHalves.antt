-- What follows from the high half of a number about the number and the end of a search for it.
use Rattle.ipnetwork_c.proofs.Words.{◌≡◌, ◌↔◌, ℕ, ◌+◌, ◌-◌, ◌/◌, ◌^◌, ◌<◌, ◌≤◌, List, length, map, get_or, IsTrue, nat_eq, refl, sym, ap, subst, ◌∙◌, arith, pow-add, div-div-eq-div-mul, eqb-true, eq-eqb, Network, Member, get_or_default, length-map, read_map, AggregateHasOneBlock, weakly, Ipv6InC, v6_in, StandsAt, FindsIn, EndFits, NextAfter, OfHalf, Tells}
use Rattle.ipnetwork_c.proofs.Searching.{last_at, last_fits, finds_last, none_last, none_fits, finds_none, stands_split}

-- the bits of a number above its low 64 + k are the bits of its high half above the low k
above : (x half k : ℕ) → OfHalf x half → x / 2 ^ (64 + k) ≡ half / 2 ^ k
above x half k is = ap (λ d. x / d) (pow-add 2 64 k) ∙ sym (div-div-eq-div-mul x (2 ^ 64) (2 ^ k))
    ∙ ap (λ h. h / 2 ^ k) is

-- a network whose prefix ends in the high half has all numbers of a high half or none
pub member_by_half : (n : Network) (x half own k : ℕ) → n.prefix ≤ 64 → k ≡ 64 - n.prefix → OfHalf x half
    → OfHalf n.address own → half < 2 ^ 64 → IsTrue (nat_eq (own / 2 ^ k) (half / 2 ^ k)) ↔ Member 128 n x
member_by_half n x half own k wide bits is own_is small =
    let e : 64 + k ≡ 128 - n.prefix = omega arith in
    let mine : x / 2 ^ (128 - n.prefix) ≡ half / 2 ^ k =
    subst (λ (j : ℕ). x / 2 ^ j ≡ half / 2 ^ k) e (above x half k is) in
    let its : n.address / 2 ^ (128 - n.prefix) ≡ own / 2 ^ k =
    subst (λ (j : ℕ). n.address / 2 ^ j ≡ own / 2 ^ k) e (above n.address own k own_is) in (
      (λ same. (omega (arith, is, small), mine ∙ sym (eqb-true (own / 2 ^ k) (half / 2 ^ k) same) ∙ sym its)),
      (λ member. eq-eqb (own / 2 ^ k) (half / 2 ^ k) (sym its ∙ sym member.1 ∙ mine)),
    )

-- a network that decides the answer comes before one that begins after the number
pub told_near : (list : List Ipv6InC) (d : Ipv6InC) (x i k byte : ℕ) → AggregateHasOneBlock → i ≡ k + 1
    → i ≤ length list → NextAfter (map v6_in list) x i → Tells (v6_in (get_or list k d)) x byte
    → EndFits 128 (map v6_in list) x × FindsIn 128 (map v6_in list) x byte
told_near list d x i k byte one e within next tells =
    let ns : List Network = map v6_in list in
    let size = length-map list v6_in in
    let held : Ipv6InC = get_or list k d in
    let b : Network = v6_in held in
    let is : b ≡ get_or ns k b = read_map v6_in list k held (omega arith)
    (get_or_default list k d held (omega arith)) in
    let at : k ≡ i - 1 = omega arith in
    let last : b ≡ get_or ns (i - 1) b = subst (λ (j : ℕ). b ≡ get_or ns j b) at is in
    let stands : StandsAt ns x i =
    record { within = omega arith; last = last_at ns x i k b e is tells.begins; next = next } in (
      (i, stands, last_fits 128 ns i b last tells.fits),
      finds_last 128 ns x i b tells.has byte one
          (λ up. stands_split ns x i stands (weakly ns up)) (omega arith) (omega arith) last tells.told tells.flag,
    )

-- none of the networks begins at or before the number
pub none_near : (list : List Ipv6InC) (x : ℕ) → AggregateHasOneBlock → NextAfter (map v6_in list) x 0
    → EndFits 128 (map v6_in list) x × FindsIn 128 (map v6_in list) x 0
none_near list x one next =
    let ns : List Network = map v6_in list in
    let stands : StandsAt ns x 0 = record { within = omega arith; last = none_last ns x 0 refl; next = next } in
    ((0, stands, none_fits 128 ns 0 refl), finds_none 128 ns x one (λ up. stands_split ns x 0 stands (weakly ns up)))
