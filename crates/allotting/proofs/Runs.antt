-- The blocks of one prefix length within a block.
use Rattle.allotting.proofs.Words.{◌≡◌, ℕ, zero, suc, ◌+◌, ◌-◌, ◌*◌, ◌/◌, ◌^◌, ◌<◌, ◌≤◌, sym, refl, ap, ap₂, subst, ◌∙◌, arith, ⊎_elim, cases_lt, mul-le, List, [], ◌∷◌, map, AllPairs, Contains, contains_cons, contains_head, contains_nil, contains_tail, pairs_append, Network, IsNetwork, IsCidrBlock, Subnet, low, high, block_size, count_up, size_pos, size_divides, multiple_begins, multiple_order, div_within, high_fits, within_member, member_within, own_address, block_number, subnets_of}

abbrev pub Apart : ℕ → Network → Network → Type 0
Apart w a b = high w a < b.address

-- ---- consecutive blocks

module _ (w p : ℕ) where
  abbrev pub run : ℕ → ℕ → List Network
  run start count = map (block_number w p) (count_up start count)

  -- c is one of these blocks, by its number
  pub record IsNumber (start count : ℕ) (c : Network) : Type 0 where
    pub number : ℕ
    pub from : start ≤ number
    pub to : number < start + count
    pub is : block_number w p number ≡ c

  pub numbered : (start count : ℕ) (c : Network) → Contains (run start count) c → IsNumber start count c
  unfolding count_up
  numbered start zero c h = absurd (contains_nil c h)
  numbered start (suc count) c h =
      ⊎_elim
      (λ (e : block_number w p start ≡ c). record { number = start; from = omega arith; to = omega arith; is = e })
      (λ (k : Contains (run (start + 1) count) c). let n = numbered (start + 1) count c k in
      let f = n.from in let t = n.to in
      record { number = n.number; from = omega (arith, f); to = omega (arith, t); is = n.is })
      (contains_cons (block_number w p start) (run (start + 1) count) c h)

  pub has_number : (start count i : ℕ) → start ≤ i → i < start + count
      → Contains (run start count) (block_number w p i)
  unfolding count_up
  has_number start zero i f t = absurd (omega (arith, f, t))
  has_number start (suc count) i f t =
      ⊎_elim
      (λ (l : start < i). contains_tail (block_number w p start) (run (start + 1) count) (block_number w p i)
      (has_number (start + 1) count i (omega (arith, l)) (omega (arith, t))))
      (λ (m : i ≤ start). let e : start ≡ i = omega (arith, m, f) in
      subst (λ (k : ℕ). Contains (run start (suc count)) (block_number w p k)) e
      (contains_head (block_number w p start) (run (start + 1) count)))
      (cases_lt start i)

  -- there is a first one, unless there are none
  pub some_run : (start count : ℕ) → 0 < count → (first : Network) × (others : List Network)
      × (run start count ≡ first ∷ others)
  unfolding count_up
  some_run start zero pos = absurd (omega (arith, pos))
  some_run start (suc count) pos = (block_number w p start, run (start + 1) count, refl)

  low_of : (i : ℕ) → low w (block_number w p i) ≡ i * block_size w p
  low_of i = multiple_begins (block_size w p) i (size_pos w p)

  apart_by : (i j : ℕ) → i < j → Apart w (block_number w p i) (block_number w p j)
  apart_by i j l =
      let s : ℕ = block_size w p in
      let m : (i + 1) * s ≤ j * s = mul-le (i + 1) s j s (omega (arith, l)) (omega arith) in
      let e : low w (block_number w p i) ≡ i * s = low_of i in
      let pos : 0 < s = size_pos w p in
      omega (arith, m, e, pos)

  pub run_apart : (start count : ℕ) → AllPairs (Apart w) (run start count)
  unfolding count_up
  run_apart start zero = λ i j d l m. absurd (omega (arith, l, m))
  run_apart start (suc count) =
      pairs_append (Apart w) (block_number w p start ∷ []) (run (start + 1) count)
      (λ i j d l m. absurd (omega (arith, l, m))) (run_apart (start + 1) count)
      (λ a b c d.
      let e : block_number w p start ≡ a = ⊎_elim (λ (q : block_number w p start ≡ a). q)
      (λ (z : Contains [] a). absurd (contains_nil a z)) (contains_cons (block_number w p start) [] a c) in
      let n = numbered (start + 1) count b d in
      let f = n.from in
      subst (λ (x : Network). Apart w x b) e (subst (λ (y : Network). Apart w (block_number w p start) y) n.is
      (apart_by start n.number (omega (arith, f)))))

-- ---- the blocks within a block

module _ (w p : ℕ) (b : Network) (net : IsNetwork w b) (wide : b.prefix ≤ p) (fits : p ≤ w) where
  abbrev first : ℕ
  first = low w b / block_size w p

  abbrev many : ℕ
  many = 2 ^ (p - b.prefix)

  size_is : block_size w b.prefix ≡ block_size w p * many
  size_is = size_divides w b.prefix p wide fits

  first_is : low w b ≡ first * block_size w p
  first_is =
      let s : ℕ = block_size w p in
      let k : ℕ = b.address / block_size w b.prefix in
      let e : low w b ≡ k * many * s = ap (λ (z : ℕ). k * z) size_is ∙ (omega arith) in
      let pos : 0 < s = size_pos w p in
      let d : first ≡ k * many = div_within (k * many) s (low w b) (omega (arith, e)) (omega (arith, e, pos)) in
      e ∙ ap (λ (z : ℕ). z * s) (sym d)

  -- each of them is a block of the length, and lies in the block
  pub inside : (c : Network) → Contains (subnets_of w b p) c → IsCidrBlock w c × (c.prefix ≡ p) × Subnet w c b
  inside c h =
      let s : ℕ = block_size w p in
      let n = numbered w p first many c h in
      let i : ℕ = n.number in
      let d : Network = block_number w p i in
      let pos : 0 < s = size_pos w p in
      let from : first * s ≤ i * s = mul-le first s i s n.from (omega arith) in
      let to : (i + 1) * s ≤ (first + many) * s = let t = n.to in
      mul-le (i + 1) s (first + many) s (omega (arith, t)) (omega arith) in
      let all = high_fits w b net in
      let begin = first_is in
      let size = size_is in
      let at : i * s / s * s ≡ i * s = multiple_begins s i pos in
      let In : Network → Type 0 = λ c. IsCidrBlock w c × (c.prefix ≡ p) × Subnet w c b in
      subst In n.is (
        record {
          network = record { address_fits = omega (arith, to, all, begin, size, pos); prefix_fits = fits };
          block = sym at;
        },
        refl,
        λ x m. let k = within_member w d x m in
            let l : i * s / s * s ≤ x = k.0 in
            let u : x < i * s / s * s + s = k.1 in
            member_within w b net x (omega (arith, l, at, from, begin)) (omega (arith, u, at, to, begin, size)),
      )

  -- and there are no others
  pub outside : (c : Network) → IsCidrBlock w c → c.prefix ≡ p → Subnet w c b → Contains (subnets_of w b p) c
  outside c h e sub =
      let s : ℕ = block_size w p in
      let i : ℕ = c.address / s in
      let make : ℕ → ℕ → Network = λ a q. record { address = a; prefix = q } in
      let at : c.address ≡ i * s = h.block ∙ ap (λ (q : ℕ). c.address / block_size w q * block_size w q) e in
      let same : c ≡ block_number w p i = ap₂ make at e in
      let pos : 0 < s = size_pos w p in
      let k = within_member w b c.address (sub c.address (own_address w c h.network)) in
      let begin = first_is in
      let size = size_is in
      let from : first ≤ i = multiple_order first i s pos (omega (arith, k.0, at, begin)) in
      let to : i < first + many = ⊎_elim (λ (l : i < first + many). l)
      (λ (m : first + many ≤ i). let r : i < first + many = absurd (
      let z = mul-le (first + many) s i s m (omega arith) in omega (arith, z, k.1, at, begin, size)) in r)
      (cases_lt i (first + many)) in
      subst (λ (d : Network). Contains (subnets_of w b p) d) (sym same) (has_number w p first many i from to)

  pub subnets_apart : AllPairs (Apart w) (subnets_of w b p)
  subnets_apart = run_apart w p first many
