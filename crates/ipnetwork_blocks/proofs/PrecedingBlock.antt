-- The block before a network.
use Rattle.ipnetwork_blocks.proofs.Words.{◌≡◌, ℕ, zero, suc, ◌+◌, ◌-◌, ◌*◌, ◌/◌, ◌<◌, sym, ap, subst, ◌∙◌, arith, Network, HostBitsAreZero, low, block_size, block_at, div_within, size_pos, preceding_block}
use Rattle.ipnetwork_blocks.proofs.FollowingBlock.{block_low}

-- the greatest multiple of s up to the number just before a multiple
multiple_before : (s x q : ℕ) → 0 < s → x + 1 ≡ q * s → x / s * s ≡ q * s - s
multiple_before s x zero pos e = absurd (omega (arith, e))
multiple_before s x (suc k) pos e =
    let own : x / s ≡ k = div_within k s x (omega (arith, e, pos)) (omega (arith, e)) in
    ap (λ d. d * s) own ∙ (omega arith)

-- the block of the same prefix length at the address before a network is the block that precedes it
pub preceding_is : (w x : ℕ) (n : Network) → x + 1 ≡ low w n → block_at w x n.prefix ≡ preceding_block w n
preceding_is w x n e =
    let begin : ℕ → Network = λ k. record { address = k; prefix = n.prefix } in
    ap begin (multiple_before (block_size w n.prefix) x (n.address / block_size w n.prefix) (size_pos w n.prefix) e)

pub preceded : (w x : ℕ) (n made : Network) → x + 1 ≡ low w n → made ≡ block_at w x n.prefix
    → (0 < low w n) × (made ≡ preceding_block w n) × HostBitsAreZero w made
preceded w x n made e is = (
  omega (arith, e),
  is ∙ preceding_is w x n e,
  subst (λ (b : Network). HostBitsAreZero w b) (sym is) (sym (block_low w (record { address = x; prefix = n.prefix }))),
)
