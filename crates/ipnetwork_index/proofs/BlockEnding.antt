-- Words that give the places of ranges which end where blocks of 256 numbers do.
use Rattle.ipnetwork_index.proofs.Words.{◌≡◌, ℕ, ◌+◌, ◌-◌, ◌*◌, ◌/◌, ◌%◌, ◌^◌, ◌<◌, ◌≤◌, ◌∙◌, List, length, get_or, arith, sym, ap, subst, refl, ⊎_elim, cases_lt, pow-add, pow_mono, mod-eq_of_lt, mul_assoc, add-mul-mod_self_left, div-mul-add, ones_cat, count_ones, AllLieAt, IsScanned, place_told}

-- what is added to a number from the bit `c` on leaves its bits before that
low_bits : (e b c s : ℕ) → b ≤ c → (e + 2 ^ c * s) % 2 ^ b ≡ e % 2 ^ b
low_bits e b c s l =
    let all : b + (c - b) ≡ c = omega (arith, l) in
    let split : 2 ^ c ≡ 2 ^ b * 2 ^ (c - b)
    = sym (ap (λ (n : ℕ). 2 ^ n) all) ∙ pow-add 2 b (c - b) in
    ap (λ (n : ℕ). (e + n) % 2 ^ b)
    (ap (λ (n : ℕ). n * s) split ∙ mul_assoc (2 ^ b) (2 ^ (c - b)) s)
    ∙ add-mul-mod_self_left e (2 ^ b) (2 ^ (c - b) * s)

one_bit : (e b c : ℕ) → b ≤ c → (e + 2 ^ c) % 2 ^ b ≡ e % 2 ^ b
one_bit e b c l =
    let one : 2 ^ c ≡ 2 ^ c * 1 = omega arith in
    ap (λ (n : ℕ). (e + n) % 2 ^ b) one ∙ low_bits e b c 1 l

one_more : (e c : ℕ) → e < 2 ^ c → count_ones (e + 2 ^ c) ≡ count_ones e + 1
unfolding lib.Count.ones
one_more e c l =
    let order : e + 2 ^ c ≡ 1 * 2 ^ c + e = omega arith in
    let cat : count_ones (1 * 2 ^ c + e) ≡ 1 + count_ones e = ones_cat c 1 e l in
    let same : count_ones (e + 2 ^ c) ≡ count_ones (1 * 2 ^ c + e) = ap count_ones order in
    omega (arith, cat, same)

few_bits_of : (e n b : ℕ) → e < 2 ^ n → n ≤ b → e % 2 ^ b ≡ e
few_bits_of e n b l m = mod-eq_of_lt (omega (arith, l, pow_mono m))

module _ (lasts : List ℕ) (part start ends next at : ℕ)
    (h : IsScanned lasts part start ends next at) (one : at < length lasts) where
  -- the blocks from the next one on lie at `at`, as far as the number there
  lies_there : (block : ℕ) → next ≤ block
      → ((x : ℕ) → x / 256 ≡ part * 32 + block → x ≤ get_or lasts at 0)
      → AllLieAt lasts (part * 32 + block) (start + count_ones (ends % 2 ^ block))
  lies_there block from within =
      let same : ends % 2 ^ block ≡ ends = few_bits_of ends next block h.small from in
      let place : at ≡ start + count_ones (ends % 2 ^ block)
      = sym (ap (λ (n : ℕ). start + count_ones n) same ∙ h.count) in
      subst (λ (p : ℕ). AllLieAt lasts (part * 32 + block) p) place
      (λ x own. record {
        one = one;
        after = λ k l.
            let b = h.before k l in omega (arith, b, own, from);
        within = within x own;
      })

  pub told_all : (word : ℕ) → part < get_or lasts at 0 / 8192 → word ≡ start * 4294967296 + ends
      → (block : ℕ) → block < 32 → AllLieAt lasts (part * 32 + block) (place_told word block)
  told_all word beyond is block few =
      let up = pow_mono h.few in
      let small : ends < 4294967296 = omega (arith, h.small, up) in
      let high : word / 2 ^ 32 ≡ start
      = ap (λ (n : ℕ). n / 2 ^ 32) is ∙ div-mul-add start 4294967296 ends small in
      let order : word ≡ ends + 2 ^ 32 * start = omega (arith, is) in
      let low : word % 2 ^ block ≡ ends % 2 ^ block
      = ap (λ (n : ℕ). n % 2 ^ block) order ∙ low_bits ends block 32 start (omega (arith, few)) in
      let place : start + count_ones (ends % 2 ^ block) ≡ place_told word block
      = sym (ap (λ (n : ℕ). n + count_ones (word % 2 ^ block)) high
      ∙ ap (λ (n : ℕ). start + count_ones n) low) in
      subst (λ (p : ℕ). AllLieAt lasts (part * 32 + block) p) place
      (⊎_elim
      (λ (l : block < next). h.told block l)
      (λ (g : next ≤ block). lies_there block g (λ x own. omega (arith, own, few, beyond)))
      (cases_lt block next))

  pub scanned_more : (value block : ℕ) → value ≡ get_or lasts at 0 → value / 8192 ≤ part
      → part * 32 + next ≤ value / 256 → 255 ≤ value % 256 → block ≡ value / 256 % 32
      → IsScanned lasts part start (ends + 2 ^ block) (block + 1) (at + 1)
  scanned_more value block is within from last e =
      let own : value ≡ (part * 32 + block) * 256 + 255 = omega (arith, within, from, last, e) in
      let fits : block < 32 = omega (arith, e) in
      let least : next ≤ block = omega (arith, own, from, e) in
      let small : ends < 2 ^ block = omega (arith, h.small, pow_mono least) in
      let double : 2 ^ (block + 1) ≡ 2 ^ block + 2 ^ block = pow-add 2 block 1 ∙ omega arith in
      record {
        few = omega (arith, fits);
        within = omega (arith, one);
        small = omega (arith, small, double);
        count = omega (arith, h.count, one_more ends block small);
        told = λ b l.
            let same : start + count_ones (ends % 2 ^ b) ≡ start + count_ones ((ends + 2 ^ block) % 2 ^ b)
            = sym (ap (λ (n : ℕ). start + count_ones n) (one_bit ends b block (omega (arith, l)))) in
            subst (λ (p : ℕ). AllLieAt lasts (part * 32 + b) p) same
            (⊎_elim
            (λ (l : b < next). h.told b l)
            (λ (g : next ≤ b). lies_there b g (λ x its. omega (arith, its, l, own, is)))
            (cases_lt b next));
        before = λ k l. ⊎_elim
            (λ (early : k < at).
            let b = h.before k early in omega (arith, b, least))
            (λ (late : at ≤ k).
            let same : at ≡ k = omega (arith, late, l) in
            subst (λ (n : ℕ). get_or lasts n 0 < (part * 32 + (block + 1)) * 256) same
            (omega (arith, is, own)))
            (cases_lt k at);
      }

-- after seven ranges, one ends with the first block and one with the third: the third block lies in the ninth range
third_block : place_told (7 * 2 ^ 32 + 5) 2 ≡ 8
unfolding lib.Count.ones
third_block = refl

fourth_block : place_told (7 * 2 ^ 32 + 5) 3 ≡ 9
unfolding lib.Count.ones
fourth_block = refl
