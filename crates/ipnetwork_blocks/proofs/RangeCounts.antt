-- The number of blocks of a range.
use Rattle.ipnetwork_blocks.proofs.Words.{◌≡◌, ℕ, zero, suc, ◌+◌, ◌-◌, ◌*◌, ◌^◌, ◌<◌, ◌≤◌, ◌⊎◌, inl, inr, refl, ap, ◌∙◌, arith, ⊎_elim, List, [], ◌∷◌, ◌++◌, length, Bool, true, false, leb, cond, cases_lt, leb-true, and_parts, length-append, pow_pos, Network, has_all, blocks_within, blocks_from_to, FromTo}
use Rattle.ipnetwork_blocks.proofs.BlocksFrom.{block_from, Begins, twice, lower_begins, upper_begins}
use Rattle.ipnetwork_blocks.proofs.HalfParts.{PartOf, whole_part}
use Rattle.ipnetwork_blocks.proofs.LeastLists.{least_unique, least_of_none}
use Rattle.ipnetwork_blocks.proofs.RangeLists.{least_within}

-- the number of blocks of the range that lie in the block with k host bits
abbrev count : ℕ → ℕ → ℕ → ℕ → ℕ → ℕ
count w k base first last = length (blocks_within w k base first last)

has_not : (base size first last : ℕ) → (first ≤ base → base + size ≤ last + 1 → ⊥)
    → has_all base size first last ≡ false
has_not base size first last fails = go (has_all base size first last) (λ t.
    let both = and_parts (leb first base) (leb (base + size) (last + 1)) t in
    fails (leb-true first base both.0) (leb-true (base + size) (last + 1) both.1))
  where
    go : (t : Bool) → (t ≡ true → ⊥) → t ≡ false
    go true f = absurd (f refl)
    go false f = refl

-- a block within the range counts as one, a block outside it as none, and any other block as the sum of its halves
whole : (w k base first last : ℕ) → Begins w k base → first ≤ base → base + 2 ^ k ≤ last + 1
    → count w k base first last ≡ 1
whole w k base first last h from to =
    ap length (least_unique w (PartOf (FromTo first last) k base) (blocks_within w k base first last)
    (block_from w k base ∷ [])
    (least_within w k base first last h)
    (whole_part (FromTo first last) w k base h (λ x l m. (omega arith, omega arith))))

outside : (w k base first last : ℕ) → Begins w k base → (last < base) ⊎ (base + 2 ^ k ≤ first)
    → count w k base first last ≡ 0
outside w k base first last h o =
    ap length (least_unique w (PartOf (FromTo first last) k base) (blocks_within w k base first last) []
    (least_within w k base first last h)
    (least_of_none w (PartOf (FromTo first last) k base) (λ x p.
    let a = p.0.0 in
    let b = p.0.1 in
    let c = p.1.0 in
    let d = p.1.1 in
    ⊎_elim (λ (l : last < base). let r : ⊥ = omega arith in r)
    (λ (l : base + 2 ^ k ≤ first). let r : ⊥ = omega arith in r) o)))

split : (w k base first last : ℕ) → (first ≤ base → base + 2 ^ suc k ≤ last + 1 → ⊥)
    → count w (suc k) base first last ≡ count w k base first last + count w k (base + 2 ^ k) first last
unfolding blocks_within
split w k base first last fails =
    let lower : List Network = blocks_within w k base first last in
    let upper : List Network = blocks_within w k (base + 2 ^ k) first last in
    ap (λ t. length (cond t (block_from w (suc k) base ∷ []) (lower ++ upper)))
    (has_not base (2 ^ suc k) first last fails) ∙ length-append lower upper

-- the halves of a block
record HasHalves (w k base : ℕ) : Type 0 where
  pub lower : Begins w k base
  pub upper : Begins w k (base + 2 ^ k)
  pub two : 2 ^ suc k ≡ 2 ^ k + 2 ^ k

halved : (w k base : ℕ) → Begins w (suc k) base → HasHalves w k base
halved w k base h = record { lower = lower_begins w k base h; upper = upper_begins w k base h; two = twice k }

-- a block with which or after which the range ends: at most one block for each host bit
count_to_end : (w k base first last : ℕ) → Begins w k base → base < first → base + 2 ^ k ≤ last + 1
    → count w k base first last ≤ k
count_to_end w zero base first last h from to = omega (arith, outside w 0 base first last h (inr (omega arith)))
count_to_end w (suc k) base first last h from to =
    let half = halved w k base h in
    let sum = split w k base first last (λ l m. let r : ⊥ = omega arith in r) in
    ⊎_elim
    (λ (l : base + 2 ^ k < first).
    let none = outside w k base first last half.lower (inr (omega arith)) in
    let some = count_to_end w k (base + 2 ^ k) first last half.upper l (omega arith) in
    omega (arith, sum, none, some))
    (λ (le : first ≤ base + 2 ^ k).
    let one = whole w k (base + 2 ^ k) first last half.upper le (omega arith) in
    let some = count_to_end w k base first last half.lower from (omega arith) in
    omega (arith, sum, one, some))
    (cases_lt (base + 2 ^ k) first)

-- a block with which or before which the range begins: at most one block for each host bit
count_from_start : (w k base first last : ℕ) → Begins w k base → first ≤ base → last + 1 < base + 2 ^ k
    → count w k base first last ≤ k
count_from_start w zero base first last h from to = omega (arith, outside w 0 base first last h (inl (omega arith)))
count_from_start w (suc k) base first last h from to =
    let half = halved w k base h in
    let sum = split w k base first last (λ l m. let r : ⊥ = omega arith in r) in
    ⊎_elim
    (λ (l : last + 1 < base + 2 ^ k).
    let none = outside w k (base + 2 ^ k) first last half.upper (inl (omega arith)) in
    let some = count_from_start w k base first last half.lower from l in
    omega (arith, sum, none, some))
    (λ (le : base + 2 ^ k ≤ last + 1).
    let one = whole w k base first last half.lower from le in
    let some = count_from_start w k (base + 2 ^ k) first last half.upper (omega arith) (omega arith) in
    omega (arith, sum, one, some))
    (cases_lt (last + 1) (base + 2 ^ k))

-- any block: at most one block, or at most two less than twice the number of host bits
count_within : (w k base first last : ℕ) → Begins w k base → (count w k base first last ≤ 1)
    ⊎ (count w k base first last + 2 ≤ 2 * k)
count_within w zero base first last h =
    ⊎_elim
    (λ (l : base < first). let e = outside w 0 base first last h (inr (omega arith)) in inl (omega arith))
    (λ (from : first ≤ base). ⊎_elim
    (λ (l : last < base). let e = outside w 0 base first last h (inl l) in inl (omega arith))
    (λ (to : base ≤ last). let e = whole w 0 base first last h from (omega arith) in inl (omega arith))
    (cases_lt last base))
    (cases_lt base first)
count_within w (suc k) base first last h =
    let half = halved w k base h in
    let Goal : Type 0 = (count w (suc k) base first last ≤ 1) ⊎ (count w (suc k) base first last + 2 ≤ 2 * suc k) in
    let wider : (n : ℕ) → count w (suc k) base first last ≡ n → (n ≤ 1) ⊎ (n + 2 ≤ 2 * k) → Goal =
    λ n e o. ⊎_elim (λ (l : n ≤ 1). let r : Goal = inl (omega arith) in r)
    (λ (l : n + 2 ≤ 2 * k). let r : Goal = inr (omega arith) in r) o in
    ⊎_elim
    (λ (l : last < base + 2 ^ k).
    let sum = split w k base first last (λ a b. let p = pow_pos k in let r : ⊥ = omega arith in r) in
    let none = outside w k (base + 2 ^ k) first last half.upper (inl l) in
    wider (count w k base first last) (omega (arith, sum, none)) (count_within w k base first last half.lower))
    (λ (to : base + 2 ^ k ≤ last). ⊎_elim
    (λ (from : first < base + 2 ^ k). ⊎_elim
    (λ (l : base < first).
    let sum = split w k base first last (λ a b. let r : ⊥ = omega arith in r) in
    let some = count_to_end w k base first last half.lower l (omega arith) in
    ⊎_elim
    (λ (m : last + 1 < base + 2 ^ k + 2 ^ k).
    let more = count_from_start w k (base + 2 ^ k) first last half.upper (omega arith) m in
    let r : Goal = inr (omega (arith, sum, some, more)) in r)
    (λ (m : base + 2 ^ k + 2 ^ k ≤ last + 1).
    let one = whole w k (base + 2 ^ k) first last half.upper (omega arith) m in
    one_more (count w (suc k) base first last) (omega (arith, sum, some, one)))
    (cases_lt (last + 1) (base + 2 ^ k + 2 ^ k)))
    (λ (le : first ≤ base).
    let one = whole w k base first last half.lower le (omega arith) in
    ⊎_elim
    (λ (m : last + 1 < base + 2 ^ k + 2 ^ k).
    let sum = split w k base first last (λ a b. let r : ⊥ = omega arith in r) in
    let more = count_from_start w k (base + 2 ^ k) first last half.upper (omega arith) m in
    one_more (count w (suc k) base first last) (omega (arith, sum, one, more)))
    (λ (m : base + 2 ^ k + 2 ^ k ≤ last + 1).
    let all = whole w (suc k) base first last h le (omega arith) in
    let r : Goal = inl (omega arith) in r)
    (cases_lt (last + 1) (base + 2 ^ k + 2 ^ k)))
    (cases_lt base first))
    (λ (l : base + 2 ^ k ≤ first).
    let sum = split w k base first last (λ a b. let p = pow_pos k in let r : ⊥ = omega arith in r) in
    let none = outside w k base first last half.lower (inr l) in
    wider (count w k (base + 2 ^ k) first last) (omega (arith, sum, none))
    (count_within w k (base + 2 ^ k) first last half.upper))
    (cases_lt first (base + 2 ^ k)))
    (cases_lt last (base + 2 ^ k))
  where
    one_more : (n : ℕ) → n ≤ 1 + k → (n ≤ 1) ⊎ (n + 2 ≤ 2 * suc k)
    one_more n l = ⊎_elim
        (λ (z : k < 1). inl (omega arith))
        (λ (p : 1 ≤ k). inr (omega arith))
        (cases_lt k 1)

pub count_from_to : (w first last : ℕ) → 2 ≤ w → length (blocks_from_to w first last) ≤ 2 * w - 2
count_from_to w first last h =
    ⊎_elim
    (λ (l : count w w 0 first last ≤ 1). omega arith)
    (λ (l : count w w 0 first last + 2 ≤ 2 * w). omega arith)
    (count_within w w 0 first last
    (record { times = 0; multiple = omega arith; bits = omega arith; fits = omega arith }))
