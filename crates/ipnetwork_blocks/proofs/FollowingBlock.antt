-- The block after a network.
use Rattle.ipnetwork_blocks.proofs.Words.{◌≡◌, ℕ, ◌+◌, ◌-◌, ◌*◌, ◌/◌, ◌^◌, ◌<◌, sym, refl, ap, subst, ◌∙◌, arith, Network, HostBitsAreZero, low, high, block_size, block_of, block_at, size_pos, multiple_begins, following_block}

-- a network's block begins and ends where the network does
pub block_low : (w : ℕ) (n : Network) → low w (block_of w n) ≡ low w n
block_low w n = multiple_begins (block_size w n.prefix) (n.address / block_size w n.prefix) (size_pos w n.prefix)

pub block_high : (w : ℕ) (n : Network) → high w (block_of w n) ≡ high w n
block_high w n = ap (λ l. l + block_size w n.prefix - 1) (block_low w n)

pub high_after : (w : ℕ) (n : Network) → high w n + 1 ≡ low w n + block_size w n.prefix
high_after w n = omega (arith, size_pos w n.prefix)

-- the block of the same prefix length at the address after a network is the block that follows it
pub following_is : (w x : ℕ) (n : Network) → x ≡ high w n + 1
    → block_of w (record { address = x; prefix = n.prefix }) ≡ following_block w n
following_is w x n e =
    let s : ℕ = block_size w n.prefix in
    let q : ℕ = n.address / s in
    let at : x ≡ (q + 1) * s = e ∙ high_after w n ∙ (omega arith) in
    let begins : x / s * s ≡ high w n + 1 = ap (λ k. k / s * s) at ∙ multiple_begins s (q + 1) (size_pos w n.prefix)
    ∙ sym at ∙ e in
    let at_address : ℕ → Network = λ k. record { address = k; prefix = n.prefix } in
    ap at_address begins

pub following_block_begins : (w : ℕ) (n : Network) → HostBitsAreZero w (following_block w n)
following_block_begins w n = ap (λ b. b.address) (sym (following_is w (high w n + 1) n refl))

pub followed : (w x : ℕ) (n made : Network) → high w n + 1 < 2 ^ w → x ≡ high w n + 1 → made ≡ block_at w x n.prefix
    → (high w n + 1 < 2 ^ w) × (made ≡ following_block w n) × HostBitsAreZero w made
followed w x n made fits e is =
    let made_is : made ≡ following_block w n = is ∙ following_is w x n e in
    (fits, made_is, subst (λ (b : Network). HostBitsAreZero w b) (sym made_is) (following_block_begins w n))
