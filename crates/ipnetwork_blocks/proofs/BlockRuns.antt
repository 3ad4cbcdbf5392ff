-- Runs of adjacent blocks of one prefix length: the steps of an iterator over them, and where it starts.
use Rattle.ipnetwork_blocks.proofs.Words.{◌≡◌, ◌≢◌, Option, None, Some, MatchOption, option_map, ℕ, suc, ◌+◌, ◌-◌, ◌*◌, ◌/◌, ◌^◌, ◌<◌, ◌≤◌, sym, refl, ap, subst, ◌∙◌, arith, ⊎_elim, List, [], ◌∷◌, length, map, pow_pos, mul-le, cases_lt, MakesProgress, item_count, Network, IsNetwork, HostBitsAreZero, low, high, block_size, block_of, count_up, div_within, size_pos, size_divides, has_ends, block_fits_too, block_begins, count_up-one, count_up-next, following_block, blocks_left, IsRun, AreEnds, block_number, subnets_of}
use Rattle.ipnetwork_blocks.proofs.FollowingBlock.{high_after}

-- the greater of two multiples is the multiple by the greater number
pub multiple_order : (i j s : ℕ) → 0 < s → i * s ≤ j * s → i ≤ j
multiple_order i j s pos h =
    ⊎_elim (λ (l : j < i). let m : (j + 1) * s ≤ i * s = mul-le (j + 1) s i s (omega arith) (omega arith) in
    absurd (omega (arith, m)))
    (λ (ge : i ≤ j). ge) (cases_lt j i)

-- the numbers of the first and the last block
pub record AreNumbers (w : ℕ) (f l : Network) (i j : ℕ) : Type 0 where
  pub first : f.address ≡ i * block_size w f.prefix
  pub last : l.address ≡ j * block_size w f.prefix
  pub ordered : i ≤ j
  pub first_is : f.address / block_size w f.prefix ≡ i
  pub last_is : l.address / block_size w f.prefix ≡ j

pub run_numbers : (w : ℕ) (f l : Network) → IsRun w f l
    → AreNumbers w f l (f.address / block_size w f.prefix) (l.address / block_size w f.prefix)
run_numbers w f l run =
    let s : ℕ = block_size w f.prefix in
    let sizes : block_size w l.prefix ≡ s = ap (block_size w) (sym run.as_long) in
    let first : f.address ≡ f.address / s * s = run.first_begins in
    let last : l.address ≡ l.address / s * s = run.last_begins ∙ ap (λ k. l.address / k * k) sizes in
    record {
      first = first;
      last = last;
      ordered = multiple_order (f.address / s) (l.address / s) s (size_pos w f.prefix)
          (omega (arith, run.ordered, first, last));
      first_is = refl;
      last_is = refl;
    }

pub block_numbered : (w : ℕ) (f : Network) → HostBitsAreZero w f
    → block_number w f.prefix (f.address / block_size w f.prefix) ≡ f
block_numbered w f begins =
    let at : ℕ → Network = λ address. record { address = address; prefix = f.prefix } in
    ap at (sym begins)

-- if the first block is the last, it is the only one left
pub run_ends : (w : ℕ) (f l : Network) → IsRun w f l → f.address ≡ l.address → blocks_left w (Some f) l ≡ f ∷ []
run_ends w f l run same =
    let s : ℕ = block_size w f.prefix in
    let number : ℕ → Network = block_number w f.prefix in
    ap (map number) (count_up-one (f.address / s) (l.address / s) (ap (λ k. k / s) same))
    ∙ ap (λ b. b ∷ []) (block_numbered w f run.first_begins)

-- if the first block comes before the last, so does the one that follows it
pub run_before : (w : ℕ) (f l : Network) → IsRun w f l → f.address ≢ l.address → high w f + 1 ≤ l.address
run_before w f l run differ =
    let s : ℕ = block_size w f.prefix in
    let at = run_numbers w f l run in
    let i : ℕ = f.address / s in
    let j : ℕ = l.address / s in
    let less : i < j = ⊎_elim (λ (l : i < j). l)
    (λ (ge : j ≤ i).
    let same : i ≡ j = omega (arith, at.ordered, ge) in
    absurd (differ (at.first ∙ ap (λ k. k * s) same ∙ sym at.last))) (cases_lt i j) in
    let m : (i + 1) * s ≤ j * s = mul-le (i + 1) s j s (omega arith) (omega arith) in
    let after : high w f + 1 ≡ i * s + s = high_after w f in
    omega (arith, m, after, at.last)

pub run_goes_on : (w : ℕ) (f l g : Network) → IsRun w f l → f.address ≢ l.address → g ≡ following_block w f
    → HostBitsAreZero w g
    → IsRun w g l × (blocks_left w (Some f) l ≡ f ∷ blocks_left w (Some g) l)
run_goes_on w f l g run differ is begins =
    let s : ℕ = block_size w f.prefix in
    let number : ℕ → Network = block_number w f.prefix in
    let i : ℕ = f.address / s in
    let j : ℕ = l.address / s in
    let before = run_before w f l run differ in
    let after : high w f + 1 ≡ i * s + s = high_after w f in
    let s_pos : 0 < s = size_pos w f.prefix in
    let at = run_numbers w f l run in
    let less : i < j = ⊎_elim (λ (l : i < j). l)
    (λ (ge : j ≤ i).
    let same : i ≡ j = omega (arith, at.ordered, ge) in
    absurd (differ (at.first ∙ ap (λ k. k * s) same ∙ sym at.last))) (cases_lt i j) in
    let Goes : Network → Type 0 = λ g. IsRun w g l × (blocks_left w (Some f) l ≡ f ∷ blocks_left w (Some g) l) in
    let begins_next : HostBitsAreZero w (following_block w f) = subst (λ b. HostBitsAreZero w b) is begins in
    let next : (high w f + 1) / s ≡ i + 1 =
    div_within (i + 1) s (high w f + 1) (omega (arith, after)) (omega (arith, after, s_pos)) in
    let from : ℕ → List Network = λ k. map number (count_up k (j + 1 - k)) in
    subst Goes (sym is) (
      record {
        network = run.network;
        as_long = run.as_long;
        first_begins = begins_next;
        last_begins = run.last_begins;
        ordered = before;
      },
      ap (map number) (count_up-next i j less) ∙ ap (λ b. b ∷ from (i + 1)) (block_numbered w f run.first_begins)
          ∙ ap (λ k. f ∷ from k) (sym next),
    )

-- the steps, given what is kept as the next block
module _ (w : ℕ) {X : Type 0} (pair : X → Network) where
  pub record Steps (f l : Network) (left : Option X) : Type 0 where
    pub ends : AreEnds w (option_map pair left) l
    pub list : blocks_left w (Some f) l ≡ f ∷ blocks_left w (option_map pair left) l

  pub step_at_last : (f l : Network) (left : Option X) → IsRun w f l → f ≡ l → left ≡ None → Steps f l left
  step_at_last f l left run same none =
      let S : Option X → Type 0 = λ left. Steps f l left in
      subst S (sym none) (record { ends = tt; list = run_ends w f l run (ap (λ n. n.address) same) })

  pub step_before_last : (f l : Network) (left answer : Option X) → IsRun w f l → f.address ≢ l.address → left ≡ answer
      → MatchOption answer (high w f + 1 ≡ 2 ^ w) (λ m. (high w f + 1 < 2 ^ w) × (pair m ≡ following_block w f)
      × HostBitsAreZero w (pair m)) → Steps f l left
  step_before_last f l left answer run differ is h = subst (λ (o : Option X). Steps f l o) (sym is) (go answer h)
    where
      go : (answer : Option X) → MatchOption answer (high w f + 1 ≡ 2 ^ w)
          (λ m. (high w f + 1 < 2 ^ w) × (pair m ≡ following_block w f) × HostBitsAreZero w (pair m))
          → Steps f l answer
      go None h = absurd (omega (arith, h, run_before w f l run differ, run.network.address_fits))
      go (Some m) h = let goes = run_goes_on w f l (pair m) run differ h.1 h.2 in
          record { ends = goes.0; list = goes.1 }

  -- what is known about the run before a step
  pub run_of : (next : Option X) (item : X) (l : Network) → next ≡ Some item → AreEnds w (option_map pair next) l
      → IsRun w (pair item) l
  run_of next item l is ends = subst (λ (o : Option X). AreEnds w (option_map pair o) l) is ends

  pub list_of : (next left : Option X) (item : X) (l : Network) → next ≡ Some item → Steps (pair item) l left
      → blocks_left w (option_map pair next) l ≡ pair item ∷ blocks_left w (option_map pair left) l
  list_of next left item l is steps = ap (λ o. blocks_left w (option_map pair o) l) is ∙ steps.list

-- the list gets one item shorter
pub list_falls : {X : Type 0} (s t : List Network) (x : Network) (item : X) → s ≡ x ∷ t
    → MakesProgress (λ _. Unit {0}) (item_count (λ (left : List Network). left)) s (Some item) t
list_falls s t x item e =
    let l : length s ≡ suc (length t) = ap length e in
    record { on = λ _. (tt, tt, omega (arith, l)); keeps = tt; rests = λ _. tt }

-- the first and the last block within a network
pub record StartsRun (w : ℕ) (n : Network) (p : ℕ) (f l : Network) : Type 0 where
  pub run : IsRun w f l
  pub list : blocks_left w (Some f) l ≡ subnets_of w n p

starts : (w p : ℕ) (n : Network) → IsNetwork w n → n.prefix ≤ p → p ≤ w
    → StartsRun w n p (block_of w (record { address = low w n; prefix = p }))
    (block_of w (record { address = high w n; prefix = p }))
starts w p n h longer fits =
    let s : ℕ = block_size w p in
    let m : ℕ = 2 ^ (p - n.prefix) in
    let big : ℕ = block_size w n.prefix in
    let q : ℕ = n.address / big in
    let s_pos : 0 < s = size_pos w p in
    let m_pos : 0 < m = pow_pos (p - n.prefix) in
    let first : Network = record { address = low w n; prefix = p } in
    let last : Network = record { address = high w n; prefix = p } in
    let whole : big ≡ s * m = size_divides w n.prefix p longer fits in
    let from : low w n ≡ q * m * s = ap (λ k. q * k) whole ∙ (omega arith) in
    let to : high w n + 1 ≡ q * m * s + m * s = high_after w n ∙ (omega (arith, from, whole)) in
    let less : m - 1 + 1 ≡ m = omega arith in
    let split : m * s ≡ (m - 1) * s + s = ap (λ k. k * s) (sym less) ∙ (omega arith) in
    let i_is : low w n / s ≡ q * m =
    div_within (q * m) s (low w n) (omega (arith, from)) (omega (arith, from, s_pos)) in
    let j_is : high w n / s ≡ q * m + (m - 1) =
    div_within (q * m + (m - 1)) s (high w n) (omega (arith, to, split, s_pos)) (omega (arith, to, split, s_pos)) in
    let last_net : IsNetwork w last = record { address_fits = (has_ends w n h).high_is_member.0; prefix_fits = fits } in
    let f_at : low w first ≡ q * m * s = ap (λ k. k * s) i_is in
    let l_at : low w last ≡ (q * m + (m - 1)) * s = ap (λ k. k * s) j_is in
    let f_number : low w first / s ≡ q * m =
    div_within (q * m) s (low w first) (omega (arith, f_at)) (omega (arith, f_at, s_pos)) in
    let l_number : low w last / s ≡ q * m + (m - 1) = div_within (q * m + (m - 1)) s (low w last) (omega (arith, l_at))
    (omega (arith, l_at, s_pos)) in
    let count : low w last / s + 1 - low w first / s ≡ m = omega (arith, f_number, l_number, m_pos) in
    let between : ℕ → ℕ → List Network = λ i k. map (block_number w p) (count_up i k) in
    record {
      run =
          record {
            network = block_fits_too w last last_net;
            as_long = refl;
            first_begins = block_begins w first;
            last_begins =
                block_begins w last;
            ordered = omega (arith, f_at, l_at);
          };
      list = ap (λ i. between i (low w last / s + 1 - low w first / s)) (f_number ∙ sym i_is)
          ∙ ap (between (low w n / s)) count;
    }

pub starts_at : {w p : ℕ} {n f l : Network} (x y : ℕ) → IsNetwork w n → n.prefix ≤ p → p ≤ w → x ≡ low w n
    → y ≡ high w n
    → f ≡ block_of w (record { address = x; prefix = p }) → l ≡ block_of w (record { address = y; prefix = p })
    → StartsRun w n p f l
starts_at {w} {p} {n} {f} {l} x y h longer fits x_is y_is f_is l_is =
    let of : ℕ → Network = λ k. block_of w (record { address = k; prefix = p }) in
    let to_last : StartsRun w n p (of (low w n)) l = subst (λ (b : Network). StartsRun w n p (of (low w n)) b)
    (sym (l_is ∙ ap of y_is)) (starts w p n h longer fits) in
    subst (λ (b : Network). StartsRun w n p b l) (sym (f_is ∙ ap of x_is)) to_last
