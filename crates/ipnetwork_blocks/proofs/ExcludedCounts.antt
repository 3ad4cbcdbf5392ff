-- The number of blocks that make up a network without a part of it.
use Rattle.ipnetwork_blocks.proofs.Words.{◌≡◌, ℕ, zero, suc, ◌+◌, ◌-◌, ◌/◌, ◌^◌, ◌<◌, ◌≤◌, ◌⊎◌, inl, inr, sym, refl, ap, subst, ◌∙◌, arith, ⊎_elim, List, [], ◌∷◌, ◌++◌, length, cases_lt, length-append, pow_pos, Network, IsNetwork, Member, Overlap, low, block_size, block_of, Subnet, high_fits, has_ends, within_member, member_within, subnet_from, subnet_prefix, shares_address, block_fits_too, block_begins, block_same_set, LiesIn, IsLeastList, InDifference}
use Rattle.ipnetwork_blocks.proofs.BlocksFrom.{block_from, Begins, from_network, from_block, in_from, from_in, twice, lower_begins, upper_begins}
use Rattle.ipnetwork_blocks.proofs.LeastLists.{own_address, least_of_same, least_unique, least_of_none, least_of_one, least_of_two}

-- the addresses of the block with m host bits that begins at base
abbrev In : ℕ → ℕ → ℕ → Type 0
In m base x = (base ≤ x) × (x < base + 2 ^ m)

-- the addresses of that block that are not in the block with k host bits that begins at hole
abbrev Rest : ℕ → ℕ → ℕ → ℕ → ℕ → Type 0
Rest m base k hole x = In m base x × ¬ (In k hole x)

-- a block of k host bits that begins within a block of at least as many host bits lies in it
inside : (w m base k hole : ℕ) → Begins w m base → Begins w k hole → k ≤ m → In m base hole
    → hole + 2 ^ k ≤ base + 2 ^ m
inside w m base k hole h j le at =
    let inner : Network = block_from w k hole in
    let outer : Network = block_from w m base in
    let bits = h.bits in
    let pos = pow_pos k in
    let sub : Subnet w inner outer = subnet_from w inner outer (from_network w k hole j) (omega arith)
    (from_in w m base hole h at.0 at.1) in
    let end : ℕ = hole + 2 ^ k - 1 in
    let last = in_from w m base end h (sub end (from_in w k hole end j (omega arith) (omega arith))) in
    let to = last.1 in
    omega arith

-- two blocks of the same size that share an address begin at the same address
same_begin : (w k base hole : ℕ) → Begins w k base → Begins w k hole → In k base hole → base ≡ hole
same_begin w k base hole h j at =
    let le = inside w k base k hole h j (omega arith) at in
    let from = at.0 in
    omega arith

-- a network within the rest of a block lies in one of the block's halves
in_half : (w m base k hole : ℕ) → Begins w (suc m) base → In (suc m) base hole → (n : Network) → IsNetwork w n
    → LiesIn w (Rest (suc m) base k hole) n
    → LiesIn w (In m base) n ⊎ LiesIn w (In m (base + 2 ^ m)) n
in_half w m base k hole h at n nn lies =
    let own : Member w n n.address = own_address w n nn in
    let in_wide = (lies n.address own).0 in
    let from = in_wide.0 in
    let to = in_wide.1 in
    let wide : Network = block_from w (suc m) base in
    let wn : IsNetwork w wide = from_network w (suc m) base h in
    let bits = h.bits in
    let two = twice m in
    let pos = pow_pos k in
    let lower = lower_begins w m base h in
    let upper = upper_begins w m base h in
    let Goal : Type 0 = LiesIn w (In m base) n ⊎ LiesIn w (In m (base + 2 ^ m)) n in
    ⊎_elim
    (λ (short : n.prefix < w - m).
    let held : Member w wide n.address = from_in w (suc m) base n.address h from to in
    let sub : Subnet w wide n = subnet_from w wide n wn (omega arith)
    (shares_address w wide n n.address (omega arith) wn nn held own) in
    let hit = lies hole (sub hole (from_in w (suc m) base hole h at.0 at.1)) in
    let r : Goal = absurd (hit.1 (omega arith, omega arith)) in r)
    (λ (long : w - m ≤ n.prefix). ⊎_elim
    (λ (l : n.address < base + 2 ^ m).
    let sub : Subnet w n (block_from w m base) =
    subnet_from w n (block_from w m base) nn long (from_in w m base n.address lower from l) in
    inl (λ x k. in_from w m base x lower (sub x k)))
    (λ (l : base + 2 ^ m ≤ n.address).
    let sub : Subnet w n (block_from w m (base + 2 ^ m)) = subnet_from w n (block_from w m (base + 2 ^ m)) nn long
    (from_in w m (base + 2 ^ m) n.address upper l (omega arith)) in
    inr (λ x k. in_from w m (base + 2 ^ m) x upper (sub x k)))
    (cases_lt n.address (base + 2 ^ m)))
    (cases_lt n.prefix (w - m))

least_of_block : (w m base : ℕ) → Begins w m base → IsLeastList w (In m base) (block_from w m base ∷ [])
least_of_block w m base h =
    least_of_same w (Member w (block_from w m base)) (In m base) (block_from w m base ∷ [])
    (λ x. ((λ k. in_from w m base x h k), (λ p. from_in w m base x h p.0 p.1)))
    (least_of_one w (block_from w m base) (from_network w m base h) (from_block w m base h))

-- there are as many blocks as there are halvings from the block down to the part
rest_list : (w k hole d m base : ℕ) → Begins w k hole → m ≡ k + d → Begins w m base → In m base hole
    → (r : List Network) × IsLeastList w (Rest m base k hole) r × (length r ≡ d)
rest_list w k hole zero m base j e h at =
    let same : k ≡ m = omega arith in
    let hk : Begins w k base = subst (λ (b : ℕ). Begins w b base) (sym same) h in
    let ak : In k base hole = subst (λ (b : ℕ). In b base hole) (sym same) at in
    let begin : base ≡ hole = same_begin w k base hole hk j ak in
    let size : 2 ^ k ≡ 2 ^ m = ap (λ b. 2 ^ b) same in (
      [],
      least_of_none w (Rest m base k hole) (λ x p. let a = p.0.0 in let b = p.0.1 in p.1 (omega arith, omega arith)),
      refl,
    )
rest_list w k hole (suc d) zero base j e h at = absurd (omega arith)
rest_list w k hole (suc d) (suc m) base j e h at =
    let lower = lower_begins w m base h in
    let upper = upper_begins w m base h in
    let two = twice m in
    let pos = pow_pos k in
    let from = at.0 in
    let to = at.1 in
    let le : k ≤ m = omega arith in
    let depth : m ≡ k + d = omega arith in
    let Goal : Type 0 = (r : List Network) × IsLeastList w (Rest (suc m) base k hole) r × (length r ≡ suc d) in
    ⊎_elim
    (λ (l : hole < base + 2 ^ m).
    let here : In m base hole = (from, l) in
    let ends = inside w m base k hole lower j le here in
    let rest = rest_list w k hole d m base j depth lower here in
    let half : Network = block_from w m (base + 2 ^ m) in
    let list : IsLeastList w (Rest (suc m) base k hole) (rest.0 ++ half ∷ []) =
    least_of_two w (Rest (suc m) base k hole) (Rest m base k hole) (In m (base + 2 ^ m)) rest.0 (half ∷ [])
    (λ x. (
      (λ p. let a = p.0.0 in let b = p.0.1 in ⊎_elim
          (λ (c : x < base + 2 ^ m). inl ((a, c), p.1))
          (λ (c : base + 2 ^ m ≤ x). inr (c, omega arith))
          (cases_lt x (base + 2 ^ m))),
      (λ o. ⊎_elim
          (λ (p : Rest m base k hole x). let a = p.0.0 in let b = p.0.1 in ((a, omega arith), p.1))
          (λ (p : In m (base + 2 ^ m) x). let a = p.0 in let b = p.1 in
          ((omega arith, omega arith), λ q. let c = q.1 in omega arith)) o),
    ))
    (λ x y p q. let a = p.0.1 in let b = q.0 in omega arith)
    (λ n nn lies. ⊎_elim
    (λ (i : LiesIn w (In m base) n). inl (λ x k. (i x k, (lies x k).1)))
    (λ (i : LiesIn w (In m (base + 2 ^ m)) n). inr i)
    (in_half w m base k hole h at n nn lies))
    rest.1 (least_of_block w m (base + 2 ^ m) upper) in
    let r : Goal = (rest.0 ++ half ∷ [], list, length-append rest.0 (half ∷ []) ∙ (let s = rest.2 in omega arith)) in r)
    (λ (l : base + 2 ^ m ≤ hole).
    let here : In m (base + 2 ^ m) hole = (l, omega arith) in
    let rest = rest_list w k hole d m (base + 2 ^ m) j depth upper here in
    let half : Network = block_from w m base in
    let list : IsLeastList w (Rest (suc m) base k hole) (half ∷ rest.0) =
    least_of_two w (Rest (suc m) base k hole) (In m base) (Rest m (base + 2 ^ m) k hole) (half ∷ []) rest.0
    (λ x. (
      (λ p. let a = p.0.0 in let b = p.0.1 in ⊎_elim
          (λ (c : x < base + 2 ^ m). inl (a, c))
          (λ (c : base + 2 ^ m ≤ x). inr ((c, omega arith), p.1))
          (cases_lt x (base + 2 ^ m))),
      (λ o. ⊎_elim
          (λ (p : In m base x). let a = p.0 in let b = p.1 in ((a, omega arith), λ q. let c = q.0 in omega arith))
          (λ (p : Rest m (base + 2 ^ m) k hole x). let a = p.0.0 in let b = p.0.1 in ((omega arith, omega arith), p.1))
          o),
    ))
    (λ x y p q. let a = p.1 in let b = q.0.0 in omega arith)
    (λ n nn lies. ⊎_elim
    (λ (i : LiesIn w (In m base) n). inl i)
    (λ (i : LiesIn w (In m (base + 2 ^ m)) n). inr (λ x k. (i x k, (lies x k).1)))
    (in_half w m base k hole h at n nn lies))
    (least_of_block w m base lower) rest.1 in
    let r : Goal = (half ∷ rest.0, list, let s = rest.2 in omega arith) in r)
    (cases_lt hole (base + 2 ^ m))

-- a network begins at a multiple of its size
network_begins : (w : ℕ) (n : Network) → IsNetwork w n → Begins w (w - n.prefix) (low w n)
network_begins w n h =
    record { times = n.address / block_size w n.prefix; multiple = refl; bits = omega arith; fits = high_fits w n h }

pub count_inside : (w : ℕ) (n i : Network) (r : List Network) → IsNetwork w n → IsNetwork w i
    → IsLeastList w (InDifference w n i) r → Subnet w i n
    → length r ≡ i.prefix - n.prefix
count_inside w n i r nn ni h sub =
    let shorter = subnet_prefix w i n ni nn sub in
    let fits = ni.prefix_fits in
    let at = within_member w n (low w i) (sub (low w i) (has_ends w i ni).low_is_member) in
    let rest = rest_list w (w - i.prefix) (low w i) (i.prefix - n.prefix) (w - n.prefix) (low w n)
    (network_begins w i ni) (omega arith) (network_begins w n nn) at in
    let list : IsLeastList w (InDifference w n i) rest.0 =
    least_of_same w (Rest (w - n.prefix) (low w n) (w - i.prefix) (low w i)) (InDifference w n i) rest.0
    (λ x. (
      (λ p. (member_within w n nn x p.0.0 p.0.1, λ m. p.1 (within_member w i x m))),
      (λ p. (within_member w n x p.0, λ q. p.1 (member_within w i ni x q.0 q.1))),
    ))
    rest.1 in
    ap length (least_unique w (InDifference w n i) r rest.0 h list) ∙ rest.2

pub none_left : (w : ℕ) (n i : Network) (r : List Network) → IsLeastList w (InDifference w n i) r
    → Subnet w n i → r ≡ []
none_left w n i r h sub =
    least_unique w (InDifference w n i) r [] h (least_of_none w (InDifference w n i) (λ x p. p.1 (sub x p.0)))

pub all_left : (w : ℕ) (n i : Network) (r : List Network) → IsNetwork w n → IsLeastList w (InDifference w n i) r
    → ¬ (Overlap w n i) → r ≡ block_of w n ∷ []
all_left w n i r nn h apart =
    let b : Network = block_of w n in
    least_unique w (InDifference w n i) r (b ∷ []) h
    (least_of_same w (Member w b) (InDifference w n i) (b ∷ [])
    (λ x. (
      (λ m. let k = (block_same_set w n x).0 m in (k, λ l. apart (x, k, l))),
      (λ p. (block_same_set w n x).1 p.0),
    ))
    (least_of_one w b (block_fits_too w n nn) (block_begins w n)))
