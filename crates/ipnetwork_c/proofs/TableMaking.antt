-- Tables made from networks in any order.
use Rattle.ipnetwork_c.proofs.Words.{◌≡◌, ◌≢◌, ℕ, ◌+◌, ◌<◌, ◌≤◌, List, ◌++◌, length, map, take, drop, get_or, slice_set, Bool, false, inl, inr, ap, refl, sym, subst, ◌∙◌, arith, zero-add, below_more, get_or-set_other, get_or-set_same, IsTotalOrder, IsStrictWeakOrder, nat_cmp_total, All, range_with_len, Called, ComparesAs, IsPermutation, IsSorted, IsSortedBy, nat_cmp, ordering_then, is_lt, MatchOrdering, Ordering, Less, Equal, Greater, ranked, then_total, on_total, always_returns_same, take-append_seam, drop-append_seam, ext_get_or, length-map, map-set, length-range_with_len, get_or-range_with_len, ranks_by, sorted_far, length_permutation, Network, IsCidrBlock, IsNetworkAtMost, PrefixFits, MakesTable, IsTableOf, row_block, On, place_cmp}
use denote.Param.Members.{Mut}
use denote.Ref.{Bor}

place_cmp_total : (w : ℕ) (ns : List Network) → IsTotalOrder (place_cmp w ns)
place_cmp_total w ns = then_total (on_total (row_block w ns)
    (then_total (on_total (λ n. n.address) nat_cmp_total) (on_total (λ n. n.prefix) nat_cmp_total))) nat_cmp_total

pub place_cmp_weak : (w : ℕ) (ns : List Network) → IsStrictWeakOrder (λ a b. is_lt (place_cmp w ns a b))
place_cmp_weak w ns = ranks_by (place_cmp_total w ns) (λ a. a)

-- a list that was sorted by calls that return this order is sorted by it
pub sorted_by : {F : Type 0} {g : Mut F (Bor ℕ × (Bor ℕ × Unit {0})) Ordering} {f : F} (w : ℕ) (ns : List Network)
    (xs : List ℕ) → ((lt : ℕ → ℕ → Bool) → IsStrictWeakOrder lt → ComparesAs g lt f → IsSortedBy lt xs)
    → ((a : Bor ℕ × (Bor ℕ × Unit {0})) (r : Ordering) (f' : F) → Called g f a r f'
    → (r ≡ place_cmp w ns a.0.now a.1.0.now) × (f' ≡ f)) → IsSorted (place_cmp w ns) xs
sorted_by {g = g} {f = f} w ns xs up told =
    up (λ x y. is_lt (place_cmp w ns x y)) (place_cmp_weak w ns)
    (always_returns_same g (λ a r. is_lt r ≡ is_lt (place_cmp w ns a.0.now a.1.0.now)) f
    (λ a r f' k. (ap is_lt (told a r f' k).0, (told a r f' k).1)))

-- the order of two blocks and of their places, from the order by which they were sorted
in_order : (a b : Network) (q p : ℕ) (o r s : Ordering)
    → MatchOrdering o (a.address < b.address) (a.address ≡ b.address) (b.address < a.address)
    → MatchOrdering r (a.prefix < b.prefix) (a.prefix ≡ b.prefix) (b.prefix < a.prefix)
    → MatchOrdering s (q < p) (q ≡ p) (p < q)
    → is_lt (ordering_then (ordering_then o r) s) ≡ false → IsNetworkAtMost b a × (b ≡ a → p ≤ q)
in_order a b q p Less r s h k m e = cc
in_order a b q p Greater r s h k m e =
    (inl h, λ same. let at = ap (λ (n : Network). n.address) same in absurd (omega arith))
in_order a b q p Equal Less s h k m e = cc
in_order a b q p Equal Greater s h k m e =
    (inr (sym h, omega arith), λ same. let at = ap (λ (n : Network). n.prefix) same in absurd (omega arith))
in_order a b q p Equal Equal Less h k m e = cc
in_order a b q p Equal Equal Equal h k m e = (inr (sym h, omega arith), λ same. omega arith)
in_order a b q p Equal Equal Greater h k m e = (inr (sym h, omega arith), λ same. omega arith)

-- the blocks that were put in the order of sorted places
pub in_order_at : (w : ℕ) (ns blocks : List Network) (places : List ℕ) → length blocks ≡ length places
    → ((k : ℕ) (d : Network) → k < length places → get_or blocks k d ≡ row_block w ns (get_or places k 0))
    → IsSorted (place_cmp w ns) places
    → (i j : ℕ) (d : Network) → i < j → j < length blocks → IsNetworkAtMost (get_or blocks i d) (get_or blocks j d)
    × (get_or blocks i d ≡ get_or blocks j d → get_or places i 0 ≤ get_or places j 0)
in_order_at w ns blocks places rows put sorted i j d l m =
    let p : ℕ = get_or places i 0 in
    let q : ℕ = get_or places j 0 in
    let a : Network = row_block w ns q in
    let b : Network = row_block w ns p in
    let first : get_or blocks i d ≡ b = put i d (omega (arith, l, m, rows)) in
    let second : get_or blocks j d ≡ a = put j d (omega (arith, m, rows)) in
    let far : is_lt (place_cmp w ns q p) ≡ false = sorted_far (λ x y. is_lt (place_cmp w ns x y)) (place_cmp_weak w ns)
    places sorted i j 0 (omega arith) (omega (arith, m, rows)) in
    let both : IsNetworkAtMost b a × (b ≡ a → p ≤ q) =
    in_order a b q p (nat_cmp a.address b.address) (nat_cmp a.prefix b.prefix) (nat_cmp q p)
    (ranked a.address b.address (nat_cmp a.address b.address) refl)
    (ranked a.prefix b.prefix (nat_cmp a.prefix b.prefix) refl) (ranked q p (nat_cmp q p) refl) far in (
      subst (λ (n : Network). IsNetworkAtMost n (get_or blocks j d)) (sym first)
          (subst (λ (n : Network). IsNetworkAtMost b n) (sym second) both.0),
      λ same. both.1 (sym first ∙ same ∙ second),
    )

-- the block of the network at a place was put
pub record IsRow (w : ℕ) (ns : List Network) (places : List ℕ) (blocks : List Network) (k : ℕ) : Type 0 where
  pub put : (d : Network) → get_or blocks k d ≡ row_block w ns (get_or places k 0)
  pub block : IsCidrBlock w (row_block w ns (get_or places k 0))

pub row_put : {C : Type 0} (held : C → Network) (w : ℕ) (ns : List Network) (places : List ℕ) (blocks : List C)
    (row : ℕ) (new : C)
    → ((k : ℕ) → k < row → IsRow w ns places (map held blocks) k) → row < length blocks
    → held new ≡ row_block w ns (get_or places row 0) → IsCidrBlock w (row_block w ns (get_or places row 0))
    → (k : ℕ) → k < row + 1 → IsRow w ns places (map held (slice_set blocks row new)) k
row_put held w ns places blocks row new so_far below is block =
    subst (λ (bs : List Network). (k : ℕ) → k < row + 1 → IsRow w ns places bs k) (sym (map-set held blocks row new))
    (below_more _ _
    (λ k l.
    let apart : k ≢ row = omega arith in
    record {
      put = λ d. get_or-set_other (map held blocks) row k (held new) d apart ∙ (so_far k l).put d;
      block =
          (so_far k l).block;
    })
    (record {
      put = λ d. get_or-set_same (map held blocks) row (held new) d (omega (arith, below, length-map blocks held))
          ∙ is;
      block = block;
    }))

-- places set to their own indexes are the numbers from 0 on
pub are_places : (places : List ℕ) → ((k : ℕ) → k < length places → get_or places k 0 ≡ k)
    → places ≡ range_with_len 0 (length places)
are_places places is = ext_get_or 0 places (range_with_len 0 (length places)) (sym (length-range_with_len 0
    (length places))) (λ k l. is k l ∙ sym (get_or-range_with_len 0 (length places) k 0 l ∙ zero-add k))

-- the front of a list is what was written there
pub taken : (front rest : List ℕ) (n : ℕ) → length front ≡ n → take n (front ++ rest) ≡ front
taken front rest n is = ap (λ k. take k (front ++ rest)) (sym is) ∙ take-append_seam front rest

-- places are numbered and sorted at the front of a list, and the blocks are put in their order
pub made : {C : Type 0} (held : C → Network) (w : ℕ) (networks before rows : List C)
    (places_before numbers order : List ℕ) → All (λ c. PrefixFits w (held c)) networks
    → length networks ≤ length before → length networks ≤ length places_before
    → numbers ≡ range_with_len 0 (length networks)
    → IsPermutation (take (length networks) (numbers ++ drop (length networks) places_before)) order
    → IsSorted (place_cmp w (map held networks)) order → length rows ≡ length networks
    → ((k : ℕ) (d : Network) → k < length order → get_or (map held rows) k d ≡ row_block w (map held networks)
    (get_or order k 0)) → All (IsCidrBlock w) (map held rows)
    → MakesTable w held networks (before, places_before) (
      rows ++ drop (length networks) before,
      order
          ++ drop (length networks) (numbers ++ drop (length networks) places_before),
    ) 0
made held w networks before rows places_before numbers order fits room places_room numbered moved sorted size
    put blocks =
    let n : ℕ = length networks in
    let ns : List Network = map held networks in
    let count : length numbers ≡ n = ap length numbered ∙ length-range_with_len 0 n in
    let whole : IsPermutation numbers order =
    subst (λ (l : List ℕ). IsPermutation l order) (taken numbers (drop n places_before) n count) moved in
    let order_size : length order ≡ n = length_permutation numbers order whole ∙ count in
    let ns_size : length ns ≡ n = length-map networks held in
    let rows_size : length (map held rows) ≡ n = length-map rows held ∙ size in
    let both = in_order_at w ns (map held rows) order (rows_size ∙ sym order_size) put sorted in
    let rest : drop n (numbers ++ drop n places_before) ≡ drop n places_before = ap
    (λ k. drop k (numbers ++ drop n places_before)) (sym count) ∙ drop-append_seam numbers (drop n places_before) in
    let table : IsTableOf w ns (map held rows) order = record {
      once = subst (λ (l : List ℕ). IsPermutation l order) (numbered ∙ ap (range_with_len 0) (sym ns_size)) whole;
      rows = rows_size ∙ sym ns_size;
      block = λ i d l. put i d (omega (arith, l, rows_size, order_size));
      table = record { blocks = blocks; ascending = λ i j d l m. (both i j d l m).0 };
      equal = λ i j d l m. (both i j d l m).1;
    } in
    On (fits, On ((room, places_room), (refl, (rows, order, table, refl, ap (λ r. order ++ r) rest))))
