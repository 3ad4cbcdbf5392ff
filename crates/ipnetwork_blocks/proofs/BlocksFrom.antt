-- The block with a given number of host bits that begins at a given address.
use Rattle.ipnetwork_blocks.proofs.Words.{◌≡◌, ℕ, suc, ◌+◌, ◌-◌, ◌*◌, ◌/◌, ◌^◌, ◌<◌, ◌≤◌, sym, ap, ◌∙◌, arith, pow_pos, pow-add, Network, IsNetwork, Member, block_size, HostBitsAreZero, size_pos, within_member, member_within, multiple_begins}

-- the block with k host bits that begins at base

abbrev pub block_from : ℕ → ℕ → ℕ → Network
block_from w k base = record { address = base; prefix = w - k }

-- base is a multiple of the block's size, and the block ends within the address space
pub record Begins (w k base : ℕ) : Type 0 where
  pub times : ℕ
  pub multiple : base ≡ times * 2 ^ k
  pub bits : k ≤ w
  pub fits : base + 2 ^ k ≤ 2 ^ w

pub size_of_bits : (w k : ℕ) → k ≤ w → block_size w (w - k) ≡ 2 ^ k
size_of_bits w k h = let e : w - (w - k) ≡ k = omega arith in ap (λ j. 2 ^ j) e

pub from_network : (w k base : ℕ) → Begins w k base → IsNetwork w (block_from w k base)
from_network w k base h = record { address_fits = omega (arith, h.fits, pow_pos k); prefix_fits = omega arith }

pub from_block : (w k base : ℕ) → Begins w k base → HostBitsAreZero w (block_from w k base)
from_block w k base h =
    let s : ℕ = block_size w (w - k) in
    let at : base ≡ h.times * s = h.multiple ∙ ap (λ z. h.times * z) (sym (size_of_bits w k h.bits)) in
    at ∙ sym (multiple_begins s h.times (size_pos w (w - k))) ∙ ap (λ z. z / s * s) (sym at)

pub in_from : (w k base x : ℕ) → Begins w k base → Member w (block_from w k base) x → (base ≤ x) × (x < base + 2 ^ k)
in_from w k base x h m =
    let i = within_member w (block_from w k base) x m in
    let b = from_block w k base h in
    let e = size_of_bits w k h.bits in
    (omega (arith, i.0, b), omega (arith, i.1, b, e))

pub from_in : (w k base x : ℕ) → Begins w k base → base ≤ x → x < base + 2 ^ k → Member w (block_from w k base) x
from_in w k base x h l m =
    let b = from_block w k base h in
    let e = size_of_bits w k h.bits in
    member_within w (block_from w k base) (from_network w k base h) x (omega (arith, b, l)) (omega (arith, b, e, m))

-- the size is twice that of a half
pub twice : (k : ℕ) → 2 ^ suc k ≡ 2 ^ k + 2 ^ k
twice k = let e : suc k ≡ k + 1 = omega arith in ap (λ j. 2 ^ j) e ∙ pow-add 2 k 1 ∙ (omega arith)

pub lower_begins : (w k base : ℕ) → Begins w (suc k) base → Begins w k base
lower_begins w k base h = record {
  times = h.times * 2;
  multiple = let t = h.times in let m : base ≡ t * (2 ^ k + 2 ^ k) = h.multiple ∙ ap (λ z. t * z) (twice k) in m
      ∙ (omega arith);
  bits = let b = h.bits in omega arith;
  fits = omega (arith, h.fits, twice k);
}

pub upper_begins : (w k base : ℕ) → Begins w (suc k) base → Begins w k (base + 2 ^ k)
upper_begins w k base h =
    let low = lower_begins w k base h in
    record {
      times = low.times + 1;
      multiple = ap (λ z. z + 2 ^ k) low.multiple ∙ (omega arith);
      bits = low.bits;
      fits = omega (arith, h.fits, twice k);
    }
