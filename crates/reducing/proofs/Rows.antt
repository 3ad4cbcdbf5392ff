-- Lists of blocks in ascending order that share no address, and how many addresses they have.
use Rattle.reducing.proofs.Words.{◌≡◌, ℕ, suc, ◌+◌, ◌^◌, ◌<◌, ◌≤◌, ◌++◌, ◌∷◌, [], List, length, refl, sym, ap, subst, ◌∙◌, append_assoc, arith, pow-le-pow_right, AllPairs, Contains, contains_head, contains_tail, Network, IsCidrBlock, high, size_pos, high_fits, total, joined, others, AllNeighbours, Joins, Becomes, Same, Joined}
use Rattle.reducing.proofs.Halves.{end_of, IsPair, is_pair, none_before, none_behind, others_add_up}

abbrev pub IsRow : ℕ → List Network → Type 0
IsRow w [] = Unit {0}
IsRow w (a ∷ []) = IsCidrBlock w a
IsRow w (a ∷ b ∷ behind) = IsCidrBlock w a × (end_of w a ≤ b.address) × IsRow w (b ∷ behind)

row_head : (w : ℕ) (a : Network) (xs : List Network) → IsRow w (a ∷ xs) → IsCidrBlock w a
row_head w a [] h = h
row_head w a (b ∷ xs) h = h.0

-- ---- a row in two parts

row_front : (w : ℕ) (xs : List Network) (a : Network) (ys : List Network) → IsRow w (xs ++ a ∷ ys)
    → IsRow w (xs ++ a ∷ [])
row_front w [] a ys h = row_head w a ys h
row_front w (x ∷ []) a ys h = (h.0, h.1, row_head w a ys h.2)
row_front w (x ∷ y ∷ xs) a ys h = (h.0, h.1, row_front w (y ∷ xs) a ys h.2)

row_back : (w : ℕ) (xs : List Network) (a : Network) (ys : List Network) → IsRow w (xs ++ a ∷ ys) → IsRow w (a ∷ ys)
row_back w [] a ys h = h
row_back w (x ∷ []) a ys h = h.2
row_back w (x ∷ y ∷ xs) a ys h = row_back w (y ∷ xs) a ys h.2

-- another block at the end of the front part
row_with_last : (w : ℕ) (xs : List Network) (a t : Network) → IsRow w (xs ++ a ∷ []) → IsCidrBlock w t
    → ((before : List Network) (p : Network) → xs ≡ before ++ p ∷ [] → end_of w p ≤ t.address) → IsRow w (xs ++ t ∷ [])
row_with_last w [] a t h ht near = ht
row_with_last w (x ∷ []) a t h ht near = (h.0, near [] x refl, ht)
row_with_last w (x ∷ y ∷ xs) a t h ht near =
    (h.0, h.1, row_with_last w (y ∷ xs) a t h.2 ht (λ before p e. near (x ∷ before) p (ap (λ u. x ∷ u) e)))

row_with_back : (w : ℕ) (xs : List Network) (t : Network) (ys : List Network) → IsRow w (xs ++ t ∷ [])
    → IsRow w (t ∷ ys)
    → IsRow w (xs ++ t ∷ ys)
row_with_back w [] t ys h k = k
row_with_back w (x ∷ []) t ys h k = (h.0, h.1, k)
row_with_back w (x ∷ y ∷ xs) t ys h k = (h.0, h.1, row_with_back w (y ∷ xs) t ys h.2 k)

row_behind : (w : ℕ) (b t : Network) (ys : List Network) → IsRow w (b ∷ ys) → IsCidrBlock w t
    → ((q : Network) (rest : List Network) → ys ≡ q ∷ rest → IsCidrBlock w q → end_of w b ≤ q.address
    → end_of w t ≤ q.address)
    → IsRow w (t ∷ ys)
row_behind w b t [] h ht near = ht
row_behind w b t (q ∷ ys) h ht near = (ht, near q ys refl (row_head w q ys h.2) h.1, h.2)

-- ---- a join in a row

neighbours_at : (P : Network → Network → Type 0) (xs : List Network) (a b : Network) (ys : List Network)
    → AllNeighbours P (xs ++ a ∷ b ∷ ys) → P a b
neighbours_at P [] a b ys h = h.0
neighbours_at P (x ∷ []) a b ys h = neighbours_at P [] a b ys h.1
neighbours_at P (x ∷ y ∷ xs) a b ys h = neighbours_at P (y ∷ xs) a b ys h.1

pub pair_in_row : (w : ℕ) (list next : List Network) (k : ℕ) (j : Joins w list next k) → IsRow w list
    → IsPair w j.a j.b (joined w j.a j.b)
pair_in_row w list next k j row =
    let back = row_back w j.before j.a (j.b ∷ j.behind) (subst (IsRow w) j.list_is row) in
    is_pair w j.a j.b back.0 (row_head w j.b j.behind back.2) back.1

joined_row : (w : ℕ) (list next : List Network) (k : ℕ) → Joins w list next k → IsRow w list → IsRow w next
joined_row w list next k j row =
    let whole : IsRow w (j.before ++ j.a ∷ j.b ∷ j.behind) = subst (IsRow w) j.list_is row in
    let back = row_back w j.before j.a (j.b ∷ j.behind) whole in
    let pair = pair_in_row w list next k j row in
    let t : Network = joined w j.a j.b in
    let ht : IsCidrBlock w t = pair.spans.block in
    let front : IsRow w (j.before ++ j.a ∷ []) = row_front w j.before j.a (j.b ∷ j.behind) whole in
    let More : Network → Network → Type 0 = λ c d. k < others w c d in
    let NoLess : Network → Network → Type 0 = λ c d. k ≤ others w c d in
    subst (IsRow w) (sym j.next_is)
    (row_with_back w j.before t j.behind
    (row_with_last w j.before j.a t front ht (λ before p e.
    let split : j.before ++ j.a ∷ [] ≡ before ++ p ∷ j.a ∷ [] = ap (λ u. u ++ j.a ∷ []) e
    ∙ append_assoc before (p ∷ []) (j.a ∷ []) in
    let last = row_back w before p (j.a ∷ []) (subst (IsRow w) split front) in
    let more = neighbours_at More before p j.a [] (subst (AllNeighbours More) split j.first) in
    none_before w p j.a j.b pair last.0 last.1 (omega (arith, more, j.others_are))))
    (row_behind w j.b t j.behind back.2 ht (λ q rest e hq order.
    let split : list ≡ (j.before ++ j.a ∷ []) ++ j.b ∷ q ∷ rest =
    j.list_is ∙ ap (λ u. j.before ++ j.a ∷ j.b ∷ u) e ∙ sym (append_assoc j.before (j.a ∷ []) (j.b ∷ q ∷ rest)) in
    let no_less = neighbours_at NoLess (j.before ++ j.a ∷ []) j.b q rest (subst (AllNeighbours NoLess) split j.least) in
    none_behind w j.a j.b q pair hq order (omega (arith, no_less, j.others_are)))))

-- ---- addresses

total_append : (w : ℕ) (xs ys : List Network) → total w (xs ++ ys) ≡ total w xs + total w ys
total_append w [] ys = omega arith
total_append w (x ∷ xs) ys = omega (arith, total_append w xs ys)

joined_total : (w : ℕ) (list next : List Network) (k : ℕ) → Joins w list next k → IsRow w list
    → total w next ≡ total w list + k
joined_total w list next k j row =
    let pair = pair_in_row w list next k j row in
    let old = ap (total w) j.list_is ∙ total_append w j.before (j.a ∷ j.b ∷ j.behind) in
    let new = ap (total w) j.next_is ∙ total_append w j.before (joined w j.a j.b ∷ j.behind) in
    omega (arith, old, new, others_add_up w j.a j.b pair, j.others_are)

row_total : (w : ℕ) (a : Network) (xs : List Network) → IsRow w (a ∷ xs) → a.address + total w (a ∷ xs) ≤ 2 ^ w
row_total w a [] h = omega (arith, high_fits w a h.network, h.block)
row_total w a (b ∷ xs) h = omega (arith, h.1, row_total w b xs h.2)

pub row_fits : (w : ℕ) (xs : List Network) → IsRow w xs → total w xs ≤ 2 ^ w
row_fits w [] h = omega arith
row_fits w (a ∷ xs) h = omega (arith, row_total w a xs h)

pub some_addresses : (w : ℕ) (xs : List Network) → length xs ≤ total w xs
some_addresses w [] = omega arith
some_addresses w (a ∷ xs) = omega (arith, some_addresses w xs, size_pos w a.prefix)

length_around : (xs : List Network) (a : Network) (ys : List Network)
    → length (xs ++ a ∷ ys) ≡ suc (length xs + length ys)
length_around [] a ys = omega arith
length_around (x ∷ xs) a ys = omega (arith, length_around xs a ys)

pub joined_length : (w : ℕ) (list next : List Network) (k : ℕ) → Joins w list next k → length list ≡ suc (length next)
joined_length w list next k j =
    omega (
      arith,
      ap length j.list_is,
      ap length j.next_is,
      length_around j.before j.a (j.b ∷ j.behind),
      length_around j.before (joined w j.a j.b) j.behind,
    )

-- ---- a set

pub set_row : (w : ℕ) (xs : List Network) → ((n : Network) → Contains xs n → IsCidrBlock w n)
    → AllPairs (λ a b. high w a < b.address) xs → IsRow w xs
set_row w [] all pairs = tt
set_row w (a ∷ []) all pairs = all a (contains_head a [])
set_row w (a ∷ b ∷ xs) all pairs =
    let near : high w a < b.address = pairs 0 1 a (omega arith) (omega arith) in
    let ha : IsCidrBlock w a = all a (contains_head a (b ∷ xs)) in (
      ha,
      omega (arith, near, ha.block, size_pos w a.prefix),
      set_row w (b ∷ xs) (λ n c. all n (contains_tail a (b ∷ xs) n c))
          (λ i j d l m. pairs (suc i) (suc j) d (omega arith) (omega arith)),
    )

-- ---- many joins

pub record AddsUp (w : ℕ) (xs us : List Network) (j : ℕ) : Type 0 where
  pub row : IsRow w us
  pub addresses : total w us ≡ total w xs + j
  pub blocks : length us ≤ total w xs

nothing_added : (w : ℕ) (xs : List Network) → IsRow w xs → AddsUp w xs xs 0
nothing_added w xs row = record { row = row; addresses = omega arith; blocks = some_addresses w xs }

one_added : (w : ℕ) (xs us next : List Network) (j n : ℕ) → AddsUp w xs us j → Joins w us next n
    → AddsUp w xs next (j + n)
one_added w xs us next j n h join = record {
  row = joined_row w us next n join h.row;
  addresses = omega (arith, h.addresses, joined_total w us next n join h.row);
  blocks = omega (arith, h.blocks, joined_length w us next n join);
}

pub adds_up : (w most : ℕ) (xs : List Network) → IsRow w xs → (us : List Network) (k : ℕ) → Becomes w most xs us k
    → AddsUp w xs us k
adds_up w most xs row us k Same = nothing_added w xs row
adds_up w most xs row us k (Joined {us = u} {next = next} {k = i} {n = n} before many join) =
    one_added w xs u next i n (adds_up w most xs row u i before) join

-- the others that one more join adds can be counted with 128 bits
pub sum_fits : (w : ℕ) (xs us next : List Network) (j n : ℕ) → w ≤ 128 → AddsUp w xs us j → Joins w us next n
    → j + n < 2 ^ 128
sum_fits w xs us next j n few h join =
    let more = one_added w xs us next j n h join in
    let fits = row_fits w next more.row in
    let all : 2 ^ w ≤ 2 ^ 128 = pow-le-pow_right {n = 2} (omega arith) {i = w} {j = 128} few in
    omega (arith, more.addresses, fits, all, h.blocks, joined_length w us next n join)
