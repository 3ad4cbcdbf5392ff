-- The part of a set of addresses that lies in a block, and the parts that lie in the block's halves.
use Rattle.ipnetwork_blocks.proofs.Words.{◌≡◌, ◌↔◌, ℕ, suc, ◌+◌, ◌-◌, ◌^◌, ◌<◌, ◌≤◌, ◌⊎◌, inl, inr, subst, arith, ⊎_elim, List, [], ◌∷◌, ◌++◌, cases_lt, pow_pos, Network, IsNetwork, Member, Subnet, subnet_from, shares_address, LiesIn, IsLeastList}
use Rattle.ipnetwork_blocks.proofs.BlocksFrom.{block_from, Begins, from_network, from_block, in_from, from_in, twice, lower_begins, upper_begins}
use Rattle.ipnetwork_blocks.proofs.LeastLists.{own_address, least_of_same, least_of_none, least_of_one, least_of_two}

-- the addresses of the set that lie in a block with k host bits
abbrev pub PartOf : (ℕ → Type 0) → ℕ → ℕ → ℕ → Type 0
PartOf S k base x = S x × ((base ≤ x) × (x < base + 2 ^ k))

-- every address of the block is in the set
abbrev pub HasAll : (ℕ → Type 0) → ℕ → ℕ → Type 0
HasAll S k base = (x : ℕ) → base ≤ x → x < base + 2 ^ k → S x

pub whole_part : (S : ℕ → Type 0) (w k base : ℕ) → Begins w k base → HasAll S k base
    → IsLeastList w (PartOf S k base) (block_from w k base ∷ [])
whole_part S w k base h all =
    least_of_same w (Member w (block_from w k base)) (PartOf S k base) (block_from w k base ∷ [])
    (λ x. (
      (λ m. let i = in_from w k base x h m in (all x i.0 i.1, i)),
      (λ p. from_in w k base x h p.1.0 p.1.1),
    ))
    (least_of_one w (block_from w k base) (from_network w k base h) (from_block w k base h))

-- a block of one address that is not in the set
pub no_part : (S : ℕ → Type 0) (w base : ℕ) → ¬ (S base) → IsLeastList w (PartOf S 0 base) []
no_part S w base none =
    least_of_none w (PartOf S 0 base)
    (λ x p.
    let a = p.1.0 in
    let b = p.1.1 in
    let e : x ≡ base = omega arith in
    none (subst S e p.0))

-- a network of the set within a block that is not all in the set lies in one of the halves
in_a_half : (S : ℕ → Type 0) (w k base : ℕ) → Begins w (suc k) base → ¬ (HasAll S (suc k) base) → (n : Network)
    → IsNetwork w n → LiesIn w (PartOf S (suc k) base) n
    → LiesIn w (PartOf S k base) n ⊎ LiesIn w (PartOf S k (base + 2 ^ k)) n
in_a_half S w k base h missing n nn lies =
    let own : Member w n n.address = own_address w n nn in
    let at : PartOf S (suc k) base n.address = lies n.address own in
    let wide : Network = block_from w (suc k) base in
    let wn : IsNetwork w wide = from_network w (suc k) base h in
    let bits = h.bits in
    let two = twice k in
    let pos = pow_pos k in
    let from = at.1.0 in
    let to = at.1.1 in
    let lower = lower_begins w k base h in
    let upper = upper_begins w k base h in
    let Goal : Type 0 = LiesIn w (PartOf S k base) n ⊎ LiesIn w (PartOf S k (base + 2 ^ k)) n in
    ⊎_elim
    (λ (short : n.prefix < w - k).
    let inside : Member w wide n.address = from_in w (suc k) base n.address h from to in
    let sub : Subnet w wide n = subnet_from w wide n wn (omega arith)
    (shares_address w wide n n.address (omega arith) wn nn inside own) in
    let r : Goal = absurd (missing (λ x l m. (lies x (sub x (from_in w (suc k) base x h l m))).0)) in r)
    (λ (long : w - k ≤ n.prefix). ⊎_elim
    (λ (l : n.address < base + 2 ^ k).
    let sub : Subnet w n (block_from w k base) =
    subnet_from w n (block_from w k base) nn long (from_in w k base n.address lower from l) in
    inl (λ x m. let p = lies x m in (p.0, in_from w k base x lower (sub x m))))
    (λ (l : base + 2 ^ k ≤ n.address).
    let sub : Subnet w n (block_from w k (base + 2 ^ k)) = subnet_from w n (block_from w k (base + 2 ^ k)) nn long
    (from_in w k (base + 2 ^ k) n.address upper l (omega arith)) in
    inr (λ x m. let p = lies x m in (p.0, in_from w k (base + 2 ^ k) x upper (sub x m))))
    (cases_lt n.address (base + 2 ^ k)))
    (cases_lt n.prefix (w - k))

halves : (S : ℕ → Type 0) (k base x : ℕ) → PartOf S (suc k) base x ↔ (PartOf S k base x ⊎ PartOf S k (base + 2 ^ k) x)
halves S k base x =
    let two = twice k in (
      (λ p.
          let from = p.1.0 in
          let to = p.1.1 in
          ⊎_elim
          (λ (l : x < base + 2 ^ k). inl (p.0, (from, l)))
          (λ (l : base + 2 ^ k ≤ x). inr (p.0, (l, omega arith)))
          (cases_lt x (base + 2 ^ k))),
      (λ o. ⊎_elim
          (λ (p : PartOf S k base x). let a = p.1.0 in let b = p.1.1 in (p.0, (a, omega arith)))
          (λ (p : PartOf S k (base + 2 ^ k) x). let a = p.1.0 in let b = p.1.1 in (p.0, (omega arith, omega arith)))
          o),
    )

-- the blocks of such a set are those of the lower half followed by those of the upper half
pub least_of_halves : (S : ℕ → Type 0) (w k base : ℕ) (below above : List Network) → Begins w (suc k) base
    → ¬ (HasAll S (suc k) base)
    → IsLeastList w (PartOf S k base) below → IsLeastList w (PartOf S k (base + 2 ^ k)) above
    → IsLeastList w (PartOf S (suc k) base) (below ++ above)
least_of_halves S w k base below above h missing =
    least_of_two w (PartOf S (suc k) base) (PartOf S k base) (PartOf S k (base + 2 ^ k)) below above
    (halves S k base)
    (λ x y p q. let a = p.1.1 in let b = q.1.0 in omega arith)
    (in_a_half S w k base h missing)
