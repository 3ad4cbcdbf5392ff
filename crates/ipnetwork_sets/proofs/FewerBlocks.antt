-- A set has fewer blocks than there are addresses.
use Rattle.ipnetwork_sets.proofs.Words.{◌≡◌, ℕ, ◌-◌, ◌+◌, ◌^◌, ◌<◌, ◌≤◌, inl, inr, ap, subst, arith, ⊎_elim, List, [], ◌∷◌, length, pow_mono, cases_lt, Network, IsNetwork, IsCidrBlock, Member, block_size, size_pos, high_fits, InUnion, AggregateIsApart, own_address, contains_head, SetHasFewerBlocks, total, IsAddressSet}
use Rattle.ipnetwork_sets.proofs.Lists.{set_block}
use Rattle.ipnetwork_sets.proofs.Steps.{tail_is_set, union_cons, union_behind, first_is_maximal}
use Rattle.ipnetwork_sets.proofs.Totals.{total_fits, total_is_within}
use Rattle.ipnetwork_sets.proofs.WholeSpace.{whole, whole_has_all}

-- each block has at least one address
at_least_one : (w : ℕ) (bs : List Network) → length bs ≤ total w bs
at_least_one w [] = omega arith
at_least_one w (b ∷ bs) = let rest = at_least_one w bs in let pos = size_pos w b.prefix in omega (arith, rest, pos)

-- if there are as many blocks as addresses from `from` on, each of these addresses is in a block
filled : (w : ℕ) (bs : List Network) (from : ℕ) → AggregateIsApart → IsAddressSet w bs
    → ((x : ℕ) → InUnion w bs x → from ≤ x) → 2 ^ w ≤ from + length bs → (x : ℕ) → from ≤ x → x < 2 ^ w
    → InUnion w bs x
filled w [] from apart h all many x le l = absurd (omega arith)
filled w (b ∷ bs) from apart h all many x le l =
    let hb : IsCidrBlock w b = set_block w (b ∷ bs) b h (contains_head b bs) in
    let own : from ≤ b.address = all b.address ((union_cons w b bs b.address).1 (inl (own_address w b hb.network))) in
    let pos = size_pos w b.prefix in
    let top = high_fits w b hb.network in
    let block = hb.block in
    let tail = tail_is_set w b bs apart h in
    let behind : (y : ℕ) → InUnion w bs y → b.address + block_size w b.prefix ≤ y = λ y c. let k =
    union_behind w b bs apart h y c in omega (arith, k, block, pos) in
    let fits = total_fits w bs (b.address + block_size w b.prefix) apart tail behind (omega (arith, top, block)) in
    let few = at_least_one w bs in
    let one : b.address + block_size w b.prefix ≤ from + 1 = omega (arith, own, pos, fits, few, many) in
    ⊎_elim
    (λ (k : from < x). (union_cons w b bs x).1 (inr (filled w bs (b.address + block_size w b.prefix) apart tail behind
    (omega (arith, own, pos, many)) x (omega (arith, one, k)) l)))
    (λ (k : x ≤ from).
    let is : b.address ≡ x = omega (arith, own, one, pos, le, k) in
    (union_cons w b bs x).1 (inl (subst (λ (y : ℕ). Member w b y) is (own_address w b hb.network))))
    (cases_lt from x)

pub set_has_fewer_blocks : AggregateIsApart → SetHasFewerBlocks
set_has_fewer_blocks apart w [] bits h = let two : 2 ^ 1 ≤ 2 ^ w = pow_mono bits in omega (arith, two)
set_has_fewer_blocks apart w (b ∷ bs) bits h =
    let two : 2 ^ 1 ≤ 2 ^ w = pow_mono bits in
    let within = total_is_within w (b ∷ bs) apart h in
    let few = at_least_one w bs in
    let m = first_is_maximal w b bs h in
    let nn : IsNetwork w whole = record { address_fits = omega (arith, two); prefix_fits = omega arith } in
    ⊎_elim
    (λ (l : length (b ∷ bs) < 2 ^ w). l)
    (λ (many : 2 ^ w ≤ length (b ∷ bs)).
    ⊎_elim
    (λ (narrow : 0 < b.prefix).
    let r : length (b ∷ bs) < 2 ^ w =
    absurd
    (m.maximal whole nn narrow (λ x k. whole_has_all w x k.0)
    (λ x k. filled w (b ∷ bs) 0 apart h (λ y c. omega arith) (omega (arith, many)) x (omega arith) k.0)) in
    r)
    (λ (wide : b.prefix ≤ 0).
    let bits_left : w - b.prefix ≡ w = omega (arith, wide) in
    let size : block_size w b.prefix ≡ 2 ^ w = ap (λ k. 2 ^ k) bits_left in
    let r : length (b ∷ bs) < 2 ^ w = absurd (omega (arith, two, within, few, size, many)) in
    r)
    (cases_lt 0 b.prefix))
    (cases_lt (length (b ∷ bs)) (2 ^ w))
