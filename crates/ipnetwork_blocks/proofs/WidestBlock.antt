-- The widest block that begins at the start of a range and ends within it.
use Rattle.ipnetwork_blocks.proofs.Words.{◌≡◌, ℕ, ◌+◌, ◌-◌, ◌*◌, ◌/◌, ◌%◌, ◌^◌, ◌<◌, ◌≤◌, ◌⊎◌, inl, inr, max, sym, ap, subst, ◌∙◌, arith, ⊎_elim, mod-eq-sub-div-mul, div-mul-le_self, cases_lt, pow_pos, pow-add, SharesBits, EndsInZeros, low, high, block_size, block_at, div_within, within_block, size_pos, multiple_begins, IsMaximalIn, FromTo}
use Rattle.ipnetwork_blocks.proofs.FollowingBlock.{block_low, block_high, high_after}
use Rattle.ipnetwork_blocks.proofs.HalfBlocks.{size_half}
use Rattle.ipnetwork_blocks.proofs.RangeLists.{widest_is_maximal}

-- the ends of a range, the number of trailing zeros of the first address, and the number of leading bits that both
-- share
pub record AreEnds (w first last zeros shared : ℕ) : Type 0 where
  pub order : first ≤ last
  pub first_fits : first < 2 ^ w
  pub zeros_end : EndsInZeros w first zeros
  pub bits_shared : SharesBits w first last shared

-- the address at which the block of prefix length p that contains first begins
abbrev pub begin_at : ℕ → ℕ → ℕ → ℕ
begin_at w first p = first / block_size w p * block_size w p

no_rest : (n s : ℕ) → n % s ≡ 0 → n / s * s ≡ n
no_rest n s e = omega (arith, mod-eq-sub-div-mul n s, div-mul-le_self n s, e)

no_rest_back : (n s : ℕ) → n / s * s ≡ n → n % s ≡ 0
no_rest_back n s e = omega (arith, mod-eq-sub-div-mul n s, e)

-- a block whose host bits are all trailing zeros of the address begins at that address
pub begins : (w first zeros p : ℕ) → EndsInZeros w first zeros → w - zeros ≤ p → p ≤ w → begin_at w first p ≡ first
begins w first zeros p h from to =
    let k : ℕ = w - p in
    let sum : (zeros - k) + k ≡ zeros = omega arith in
    let power : 2 ^ zeros ≡ 2 ^ (zeros - k) * 2 ^ k = ap (λ j. 2 ^ j) (sym sum) ∙ pow-add 2 (zeros - k) k in
    let q : ℕ = first / 2 ^ zeros in
    let whole : first ≡ q * 2 ^ (zeros - k) * 2 ^ k = sym (no_rest first (2 ^ zeros) h.divides) ∙ ap (λ s. q * s) power
    ∙ (omega arith) in
    ap (λ n. n / 2 ^ k * 2 ^ k) whole ∙ multiple_begins (2 ^ k) (q * 2 ^ (zeros - k)) (pow_pos k) ∙ sym whole

-- no other block begins at that address
pub begins_alone : (w first zeros p : ℕ) → EndsInZeros w first zeros → begin_at w first p ≡ first → w - zeros ≤ p
begins_alone w first z p h e = let most = h.greatest (w - p) (omega arith) (no_rest_back first (block_size w p) e) in
    omega (arith, most)

at_low : (w x p : ℕ) → low w (block_at w x p) ≡ begin_at w x p
at_low w x p = block_low w (record { address = x; prefix = p })

at_end : (w x p : ℕ) → high w (block_at w x p) + 1 ≡ begin_at w x p + block_size w p
at_end w x p = ap (λ k. k + 1) (block_high w (record { address = x; prefix = p }))
    ∙ high_after w (record { address = x; prefix = p })

module _ (w first last zeros shared p : ℕ) (e : AreEnds w first last zeros shared)
    (is : p ≡ max (w - zeros) shared) where
  from : w - zeros ≤ p
  from = omega (arith, is)

  enough : shared ≤ p
  enough = omega (arith, is)

  either : (p ≡ w - zeros) ⊎ (p ≡ shared)
  either = ⊎_elim (λ (l : w - zeros < shared). inr (omega (arith, is)))
      (λ (le : shared ≤ w - zeros). inl (omega (arith, is))) (cases_lt (w - zeros) shared)

  within : p ≤ w
  within = ⊎_elim (λ (a : p ≡ w - zeros). omega arith) (λ (b : p ≡ shared). omega (arith, e.bits_shared.within)) either

  pub at_first : begin_at w first p ≡ first
  at_first = begins w first zeros p e.zeros_end from within

  -- if the block ends within the range, the next wider one does not lie in the range
  pub none_wider : high w (block_at w first p) ≤ last
      → 0 < p → (first ≤ low w (block_at w first (p - 1))) × (high w (block_at w first (p - 1)) ≤ last) → ⊥
  none_wider ends pos lies =
      let under : begin_at w first (p - 1) ≤ first = div-mul-le_self first (block_size w (p - 1)) in
      let same : begin_at w first (p - 1) ≡ first = omega (arith, under, lies.0, at_low w first (p - 1)) in
      let wide = begins_alone w first zeros (p - 1) e.zeros_end same in
      ⊎_elim (λ (a : p ≡ w - zeros). omega (arith, wide, a, pos))
      (λ (b : p ≡ shared).
      let agree : last / block_size w p ≡ first / block_size w p =
      sym (subst (λ (k : ℕ). first / block_size w k ≡ last / block_size w k) (sym b) e.bits_shared.agree) in
      let last_in = within_block (block_size w p) first last (size_pos w p) agree in
      let back : p - 1 + 1 ≡ p = omega arith in
      let half : block_size w (p - 1) ≡ block_size w p + block_size w p =
      size_half w (p - 1) (omega (arith, within, pos)) ∙ ap (λ k. block_size w k + block_size w k) back in
      omega (arith, last_in.1, lies.1, at_end w first (p - 1), same, half, at_first, size_pos w p))
      either

  pub widest_fits : high w (block_at w first p) ≤ last → IsMaximalIn w (FromTo first last) (block_at w first p)
  widest_fits ends = widest_is_maximal w first last p e.first_fits within (omega (arith, at_low w first p, at_first))
      ends (none_wider ends)

  -- if the prefix is longer than the bits that both share, the block ends before or at the last address
  pub ends_within : shared < p → high w (block_at w first p) ≤ last
  ends_within more =
      let s : ℕ = block_size w p in
      ⊎_elim
      (λ (inside : last < first + s).
      let agree : last / s ≡ first / s = div_within (first / s) s last (omega (arith, at_first, e.order))
      (omega (arith, at_first, inside)) in
      let most = e.bits_shared.greatest p within (sym agree) in
      let r : high w (block_at w first p) ≤ last = absurd (omega (arith, most, more)) in r)
      (λ (outside : first + s ≤ last). omega (arith, at_end w first p, at_first, outside))
      (cases_lt last (first + s))

  -- if the block ends after the range, it has a lower half, which ends within the range
  not_whole : last < high w (block_at w first p) → p < w
  not_whole late = ⊎_elim (λ (l : p < w). l)
      (λ (le : w ≤ p).
      let none : w - p ≡ 0 = omega arith in
      let one : block_size w p ≡ 1 = ap (λ k. 2 ^ k) none in
      let r : p < w = absurd (omega (arith, late, at_end w first p, at_first, one, e.order)) in r)
      (cases_lt p w)

  half_within : last < high w (block_at w first p) → high w (block_at w first (p + 1)) ≤ last
  half_within late =
      let narrow : p < w = not_whole late in
      let half : block_size w p ≡ block_size w (p + 1) + block_size w (p + 1) = size_half w p narrow in
      let begin : begin_at w first (p + 1) ≡ first = begins w first zeros (p + 1) e.zeros_end (omega (arith, from))
      (omega (arith, narrow)) in
      let s : ℕ = block_size w (p + 1) in
      ⊎_elim
      (λ (inside : last < first + s).
      let agree : last / s ≡ first / s = div_within (first / s) s last (omega (arith, begin, e.order))
      (omega (arith, begin, inside)) in
      let more = e.bits_shared.greatest (p + 1) (omega (arith, narrow)) (sym agree) in
      let r : high w (block_at w first (p + 1)) ≤ last = absurd (omega (arith, more, enough)) in r)
      (λ (outside : first + s ≤ last). omega (arith, at_end w first (p + 1), begin, outside))
      (cases_lt last (first + s))

  pub widest_half : last < high w (block_at w first p) → (p + 1 ≤ w) × (begin_at w first (p + 1) ≡ first)
      × IsMaximalIn w (FromTo first last) (block_at w first (p + 1))
  widest_half late =
      let narrow : p < w = not_whole late in
      let begin : begin_at w first (p + 1) ≡ first = begins w first zeros (p + 1) e.zeros_end (omega (arith, from))
      (omega (arith, narrow)) in
      let back : p + 1 - 1 ≡ p = omega arith in (
        omega (arith, narrow),
        begin,
        widest_is_maximal w first last (p + 1) e.first_fits (omega (arith, narrow))
            (omega (arith, at_low w first (p + 1), begin)) (half_within late)
            (λ pos lies. let whole = subst (λ (k : ℕ). high w (block_at w first k) ≤ last) back lies.1 in
            omega (arith, whole, late)),
      )
