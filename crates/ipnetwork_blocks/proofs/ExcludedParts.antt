-- The addresses of one network that are not in another: those before the other network, and those after it.
use Rattle.ipnetwork_blocks.proofs.Words.{◌≡◌, ◌↔◌, ℕ, ◌+◌, ◌^◌, ◌<◌, ◌≤◌, ◌⊎◌, inl, inr, arith, ⊎_elim, List, [], ◌++◌, cases_lt, Network, IsNetwork, Member, Overlap, low, high, size_pos, has_ends, within_member, member_within, IsLeastList, FromTo, InDifference, Before, Behind}
use Rattle.ipnetwork_blocks.proofs.LeastLists.{least_of_same, least_of_none, least_of_two}

-- networks that share no address
pub least_apart : (w first last : ℕ) (n i : Network) (r : List Network) → IsNetwork w n → ¬ (Overlap w n i)
    → first ≡ low w n → last ≡ high w n
    → IsLeastList w (FromTo first last) r → IsLeastList w (InDifference w n i) r
least_apart w first last n i r nn apart from to h =
    let pos = size_pos w n.prefix in
    least_of_same w (FromTo first last) (InDifference w n i) r
    (λ x. (
      (λ p.
          let a = p.0 in
          let b = p.1 in
          let m : Member w n x = member_within w n nn x (omega arith) (omega arith) in
          (m, λ k. apart (x, m, k))),
      (λ p. let i = (has_ends w n nn).within x p.0 in let a = i.0 in let b = i.1 in (omega arith, omega arith)),
    ))
    h

-- networks that share an address
pub least_around : {w : ℕ} {n i : Network} {r s : List Network} (first last : ℕ) → IsNetwork w n → IsNetwork w i
    → Overlap w n i → first ≡ low w n → last ≡ high w n
    → IsLeastList w (Before w first i) r → IsLeastList w (Behind w i last) s
    → IsLeastList w (InDifference w n i) (r ++ s)
least_around {w} {n} {i} {r} {s} first last nn ni o from to h k =
    let shared_n = (has_ends w n nn).within o.0 o.1 in
    let shared_i = (has_ends w i ni).within o.0 o.2 in
    let a = shared_n.0 in
    let b = shared_n.1 in
    let c = shared_i.0 in
    let d = shared_i.1 in
    let pos_n = size_pos w n.prefix in
    let pos_i = size_pos w i.prefix in
    let parts : (x : ℕ) → InDifference w n i x ↔ (Before w first i x ⊎ Behind w i last x) = λ x. (
      (λ p.
          let within = (has_ends w n nn).within x p.0 in
          let e = within.0 in
          let f = within.1 in
          ⊎_elim
          (λ (l : x < low w i). inl (omega arith, l))
          (λ (le : low w i ≤ x). ⊎_elim
          (λ (l : high w i < x). inr (l, omega arith))
          (λ (m : x ≤ high w i). absurd (p.1 (member_within w i ni x le (omega arith))))
          (cases_lt (high w i) x))
          (cases_lt x (low w i))),
      (λ q. ⊎_elim
          (λ (p : Before w first i x).
          let e = p.0 in
          let f = p.1 in (
            member_within w n nn x (omega arith) (omega arith),
            λ m. let j = within_member w i x m in let g = j.0 in
                omega arith,
          ))
          (λ (p : Behind w i last x).
          let e = p.0 in
          let f = p.1 in (
            member_within w n nn x (omega arith) (omega arith),
            λ m. let j = (has_ends w i ni).within x m in
                let g = j.1 in omega arith,
          ))
          q),
    ) in
    least_of_two w (InDifference w n i) (Before w first i) (Behind w i last) r s parts
    (λ x y p q. let e = p.1 in let f = q.0 in omega arith)
    (λ c cn lies.
    let ends = has_ends w c cn in
    let pos_c = size_pos w c.prefix in
    ⊎_elim
    (λ (l : low w c < low w i). inl (λ x m. ⊎_elim
    (λ (p : Before w first i x). p)
    (λ (p : Behind w i last x).
    let e = p.0 in
    let within = ends.within x m in
    let f = within.1 in
    let inside : Member w c (low w i) = member_within w c cn (low w i) (omega arith) (omega arith) in
    let r : Before w first i x = absurd ((lies (low w i) inside).1 (has_ends w i ni).low_is_member) in r)
    ((parts x).0 (lies x m))))
    (λ (le : low w i ≤ low w c). inr (λ x m. ⊎_elim
    (λ (p : Before w first i x).
    let e = p.1 in
    let within = ends.within x m in
    let f = within.0 in
    let r : Behind w i last x = absurd (omega arith) in r)
    (λ (p : Behind w i last x). p)
    ((parts x).0 (lies x m))))
    (cases_lt (low w c) (low w i)))
    h k

-- the addresses before a network,
pub least_before : (w first last : ℕ) (n : Network) (r : List Network) → last + 1 ≡ low w n
    → IsLeastList w (FromTo first last) r → IsLeastList w (Before w first n) r
least_before w first last n r e h =
    least_of_same w (FromTo first last) (Before w first n) r
    (λ x. ((λ p. let a = p.1 in (p.0, omega arith)), (λ p. let a = p.1 in (p.0, omega arith)))) h

pub none_before : (w first : ℕ) (n : Network) → low w n ≡ 0 → IsLeastList w (Before w first n) []
none_before w first n e = least_of_none w (Before w first n) (λ x p. let a = p.1 in omega arith)

-- the addresses after a network
pub least_behind : (w first last : ℕ) (n : Network) (r : List Network) → first ≡ high w n + 1
    → IsLeastList w (FromTo first last) r → IsLeastList w (Behind w n last) r
least_behind w first last n r e h =
    least_of_same w (FromTo first last) (Behind w n last) r
    (λ x. ((λ p. let a = p.0 in (omega arith, p.1)), (λ p. let a = p.0 in (omega arith, p.1)))) h

pub none_behind : (w last : ℕ) (n : Network) → high w n + 1 ≡ 2 ^ w → last < 2 ^ w → IsLeastList w (Behind w n last) []
none_behind w last n e fits = least_of_none w (Behind w n last) (λ x p. let a = p.0 in let b = p.1 in omega arith)
