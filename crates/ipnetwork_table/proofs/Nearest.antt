-- The last stored block that does not come after an address, and how many bits the two share.
use Rattle.ipnetwork_table.proofs.Words.{◌≡◌, ℕ, ◌-◌, ◌/◌, ◌^◌, ◌<◌, ◌≤◌, Some, sym, ap, subst, ◌∙◌, arith, ⊎_elim, IsSome, FinMap, get, cases_lt, Network, Member, Subnet, IsNetworkAtMost, network_cmp, block_size, block_at, block_at_holds, block_at_network, block_at_subnet, size_pos, div_within, block_same_set, coarser_size, member_within, within_member, subnet_from, shares_address, subnet_after, HasOnlyBlocks, IsLongest, NoneHolds, NoneUpTo, IsLastUpTo, NoneAbove, ShareAtMost}

-- ---- the number of shared bits

-- y does not lie in the block of prefix length p around x
pub share_less : (w x y p : ℕ) → 0 < p → ¬ (Member w (block_at w x p) y) → ShareAtMost w x y (p - 1)
share_less w x y p more apart q beyond within holds = apart ((block_same_set w (record { address = x; prefix = p }) y).1
    (holds.0, coarser_size w p q y x (omega (arith, more, beyond)) within holds.1))

-- any two addresses share at least 0 bits
pub share_none : (w x y : ℕ) → x < 2 ^ w → y < 2 ^ w → Member w (record { address = x; prefix = 0 }) y
share_none w x y x_fits y_fits =
    let all : 2 ^ (w - 0) ≡ 2 ^ w = let none : w - 0 ≡ w = omega arith in ap (λ k. 2 ^ k) none in (
      y_fits,
      div_within 0 (2 ^ (w - 0)) y (omega arith) (omega arith)
          ∙ sym (div_within 0 (2 ^ (w - 0)) x (omega arith) (omega arith)),
    )

-- ---- the order

address_up_to : (m n : Network) → IsNetworkAtMost m n → m.address ≤ n.address
address_up_to m n most = ⊎_elim (λ (less : m.address < n.address). omega (arith, less))
    (λ (same : (m.address ≡ n.address) × (m.prefix ≤ n.prefix)). omega (arith, same.0)) most

-- the addresses of x and of the block of prefix length p around it share the first p bits
begins : (w x p q : ℕ) → q ≤ p → p ≤ w → (block_at w x p).address / block_size w q ≡ x / block_size w q
begins w x p q fewer within =
    let same = div_within (x / block_size w p) (block_size w p) (block_at w x p).address (omega arith)
    (omega (arith, size_pos w p)) in
    coarser_size w q p (block_at w x p).address x fewer within same

module _ {V : Type 0} (w x p : ℕ) (t : FinMap network_cmp V) (blocks : HasOnlyBlocks w t) (fits : x < 2 ^ w)
    (within : p ≤ w) (above : NoneAbove w t x p) (end : Network) (is : end ≡ block_at w x p) where
  -- each stored block that holds x has at most p bits, and comes before the block of p bits around x or is it
  at_most : (n : Network) → IsSome (get t n) → Member w n x → n.prefix ≤ p
  at_most n stored holds = ⊎_elim (λ (more : p < n.prefix). absurd (above n stored more holds))
      (λ (few : n.prefix ≤ p). few) (cases_lt p n.prefix)

  up_to_end : (n : Network) → IsSome (get t n) → Member w n x → IsNetworkAtMost n end
  up_to_end n stored holds =
      let key = blocks n stored in
      let last = block_at_network w x p fits within in
      subst (λ e. IsNetworkAtMost n e) (sym is)
      (subnet_after w n (block_at w x p) key.network last.network key.block last.block
      (block_at_subnet w x p n (at_most n stored holds) within holds))

  pub none_near : NoneUpTo t end → NoneHolds w t x
  none_near none n stored holds = none n stored (up_to_end n stored holds)

  module _ (k : Network) (last : IsLastUpTo t end k) where
    near : IsNetworkAtMost k (block_at w x p)
    near = subst (λ e. IsNetworkAtMost k e) is last.1

    -- if the last block up to that of p bits around x does not hold x, the two share fewer than p bits
    pub fewer_shared : (c : ℕ) → c ≤ w → Member w (record { address = end.address; prefix = c }) k.address
        → ¬ (Member w k x) → c < p
    fewer_shared c small shared apart = ⊎_elim
        (λ (less : c < p). less)
        (λ (enough : p ≤ c).
        let inside : Member w (block_at w x p) k.address = (
          shared.0,
          coarser_size w p c k.address end.address enough small shared.1
              ∙ ap (λ (e : Network). e.address / block_size w p) is,
        ) in
        let block = block_at_network w x p fits within in
        let from : (block_at w x p).address ≤ k.address =
        omega (arith, (within_member w (block_at w x p) k.address inside).0, block.block) in
        ⊎_elim
        (λ (less : k.address < (block_at w x p).address). omega (arith, less, from))
        (λ (same : (k.address ≡ (block_at w x p).address) × (k.prefix ≤ p)).
        absurd (apart (
          fits,
          sym (ap (λ a. a / block_size w k.prefix) same.0
              ∙ begins w x p k.prefix same.1 within),
        )))
        near)
        (cases_lt c p)

    -- no stored block that holds x has a longer prefix than x shares with the last block
    pub none_above_shared : (c : ℕ) → ShareAtMost w end.address k.address c → NoneAbove w t x c
    none_above_shared c shared n stored beyond holds =
        let key = blocks n stored in
        let lower : n.address ≤ k.address = address_up_to n k (last.2 n stored (up_to_end n stored holds)) in
        let block = block_at_network w x p fits within in
        let most : k.address ≤ x = omega (
          arith,
          address_up_to k (block_at w x p) near,
          (within_member w (block_at w x p) x (block_at_holds w x p fits)).0,
          block.block,
        ) in
        let ends = within_member w n x holds in
        let inside : Member w n k.address = member_within w n key.network k.address (omega (arith, lower, key.block))
        (omega (arith, most, ends.1)) in
        shared n.prefix beyond key.network.prefix_fits (
          inside.0,
          inside.1 ∙ sym holds.1 ∙ sym (ap (λ (e : Network). e.address / block_size w n.prefix) is
              ∙ begins w x p n.prefix (at_most n stored holds) within),
        )

    -- if the last block holds x, it is the longest that does
    pub last_is_longest : (v : V) → get t k ≡ Some v → Member w k x → IsLongest w t x k v
    last_is_longest v found here = record {
      stored = found;
      holds = here;
      longest = λ n stored holds. ⊎_elim
          (λ (beyond : k.prefix < n.prefix). absurd (longer n stored beyond holds))
          (λ (fewer : n.prefix ≤ k.prefix). fewer)
          (cases_lt k.prefix n.prefix);
    } where
      longer : (n : Network) → IsSome (get t n) → k.prefix < n.prefix → ¬ (Member w n x)
      longer n stored beyond holds =
          let key = blocks n stored in
          let block = blocks k last.0 in
          let inside : Subnet w n k = subnet_from w n k key.network (omega (arith, beyond))
          (shares_address w n k x (omega (arith, beyond)) key.network block.network holds here) in
          let after : IsNetworkAtMost k n = subnet_after w k n block.network key.network block.block key.block inside in
          let upper : IsNetworkAtMost n k = last.2 n stored (up_to_end n stored holds) in
          let from : k.address ≤ n.address = address_up_to k n after in
          ⊎_elim
          (λ (less : n.address < k.address). omega (arith, less, from))
          (λ (same : (n.address ≡ k.address) × (n.prefix ≤ k.prefix)). omega (arith, same.1, beyond)) upper
