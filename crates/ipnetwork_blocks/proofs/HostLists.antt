-- The lists of hosts.
use Rattle.ipnetwork_blocks.proofs.Words.{◌≡◌, Option, None, Some, MatchOption, ℕ, zero, suc, ◌+◌, ◌-◌, ◌^◌, ◌<◌, ◌≤◌, sym, ap, subst, ◌∙◌, arith, List, [], ◌∷◌, ◌++◌, length, get_or, pow_below, Network, low, high, block_size, count_up, members, size_pos, count_up-more, count_up-none, AreIpv4Hosts, AreIpv6Hosts}

-- no hosts are left, and one host is taken off the front
pub none_left : (last count : ℕ) (left : List ℕ) → count_up (last + 1 - count) count ≡ left → count ≡ 0 → left ≡ []
none_left last count left is none = sym is ∙ ap (λ k. count_up (last + 1 - k) k) none ∙ count_up-none (last + 1 - 0)

pub one_taken : (last count item : ℕ) (left : List ℕ) → count_up (last + 1 - count) count ≡ left → count ≤ last + 1
    → 0 < count → item ≡ last - (count - 1)
    → left ≡ item ∷ count_up (last + 1 - (count - 1)) (count - 1)
one_taken last count item left is fits some at =
    let start : ℕ = last + 1 - count in
    let same : start ≡ item = omega arith in
    let after : start + 1 ≡ last + 1 - (count - 1) = omega arith in
    sym is ∙ count_up-more start count some ∙ ap (λ k. k ∷ count_up (start + 1) (count - 1)) same
    ∙ ap (λ k. item ∷ count_up k (count - 1)) after

-- the last number of a run
count_up-last : (a k : ℕ) → count_up a (k + 1) ≡ count_up a k ++ (a + k) ∷ []
count_up-last a zero =
    let one : count_up a 1 ≡ a ∷ [] = count_up-more a 1 (omega arith) ∙ ap (λ xs. a ∷ xs) (count_up-none (a + 1)) in
    let at : a ≡ a + 0 = omega arith in
    one ∙ ap (λ k. k ∷ []) at ∙ ap (λ xs. xs ++ (a + 0) ∷ []) (sym (count_up-none a))
count_up-last a (suc k) =
    let less : suc k + 1 - 1 ≡ k + 1 = omega arith in
    let back : suc k - 1 ≡ k = omega arith in
    let at : a + 1 + k ≡ a + suc k = omega arith in
    count_up-more a (suc k + 1) (omega arith) ∙ ap (λ j. a ∷ count_up (a + 1) j) less
    ∙ ap (λ xs. a ∷ xs) (count_up-last (a + 1) k)
    ∙ ap (λ j. a ∷ (count_up (a + 1) k ++ j ∷ [])) at
    ∙ ap (λ j. a ∷ (count_up (a + 1) j ++ (a + suc k) ∷ [])) (sym back)
    ∙ ap (λ xs. xs ++ (a + suc k) ∷ []) (sym (count_up-more a (suc k) (omega arith)))

-- a network with host bits has at least two members
pub two_members : (w : ℕ) (n : Network) → n.prefix < w → low w n + 1 ≤ high w n
two_members w n h =
    let more : 2 ^ 0 < 2 ^ (w - n.prefix) = pow_below 0 (w - n.prefix) (omega arith) in
    omega (arith, more)

-- the members between the first and the last
pub between_ends : (w : ℕ) (n : Network) → n.prefix < w
    → members w n ≡ low w n ∷ count_up (high w n - 1 + 1 - (high w n - low w n - 1)) (high w n - low w n - 1)
    ++ high w n ∷ []
between_ends w n h =
    let a : ℕ = low w n in
    let s : ℕ = block_size w n.prefix in
    let c : ℕ = high w n - a - 1 in
    let two = two_members w n h in
    let s_pos : 0 < s = size_pos w n.prefix in
    let size : s - 1 ≡ c + 1 = omega (arith, two, s_pos) in
    let start : a + 1 ≡ high w n - 1 + 1 - c = omega (arith, two) in
    let last : a + 1 + c ≡ high w n = omega (arith, two, s_pos) in
    count_up-more a s s_pos ∙ ap (λ k. a ∷ count_up (a + 1) k) size ∙ ap (λ xs. a ∷ xs) (count_up-last (a + 1) c)
    ∙ ap (λ k. a ∷ (count_up (a + 1) c ++ k ∷ [])) last ∙ ap (λ k. a ∷ (count_up k c ++ high w n ∷ [])) start

pub ipv4_between : (n : Network) (first last : ℕ) → n.prefix ≤ 30 → first ≡ low 32 n → last ≡ high 32 n
    → AreIpv4Hosts n (count_up (last - 1 + 1 - (last - first - 1)) (last - first - 1))
ipv4_between n first last short first_is last_is =
    let Hosts : ℕ → ℕ → Type 0 = λ first last.
    AreIpv4Hosts n (count_up (last - 1 + 1 - (last - first - 1)) (last - first - 1)) in
    subst (λ (k : ℕ). Hosts k last) (sym first_is) (subst (λ (k : ℕ). Hosts (low 32 n) k) (sym last_is)
    (record { inner = λ _. between_ends 32 n (omega arith); whole = λ long. absurd (omega arith) }))

-- after the first member is taken off
pub ipv6_rest : (n : Network) (first : Option ℕ) (list rest : List ℕ) → n.prefix ≤ 126 → list ≡ members 128 n
    → MatchOption first ((list ≡ []) × (rest ≡ [])) (λ x. list ≡ x ∷ rest) → AreIpv6Hosts n rest
ipv6_rest n first list rest short is steps =
    record { inner = λ _. go first steps; whole = λ long. absurd (omega arith) }
  where
    begins : members 128 n ≡ low 128 n ∷ count_up (low 128 n + 1) (block_size 128 n.prefix - 1)
    begins = count_up-more (low 128 n) (block_size 128 n.prefix) (size_pos 128 n.prefix)

    go : (first : Option ℕ) → MatchOption first ((list ≡ []) × (rest ≡ [])) (λ x. list ≡ x ∷ rest)
        → members 128 n ≡ low 128 n ∷ rest
    go None h =
        let l : length list ≡ suc (length (count_up (low 128 n + 1) (block_size 128 n.prefix - 1))) =
        ap length (is ∙ begins) in
        let none : length list ≡ 0 = ap length h.0 in
        absurd (omega (arith, l, none))
    go (Some x) h =
        let both : x ∷ rest ≡ low 128 n ∷ count_up (low 128 n + 1) (block_size 128 n.prefix - 1) = sym h
        ∙ is ∙ begins in
        let head : x ≡ low 128 n = ap (λ xs. get_or xs 0 0) both in
        sym is ∙ h ∙ ap (λ k. k ∷ rest) head
