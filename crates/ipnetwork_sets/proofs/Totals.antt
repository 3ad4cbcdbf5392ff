-- The number of addresses that the blocks of a set have together.
use Rattle.ipnetwork_sets.proofs.Words.{◌≡◌, ℕ, ◌+◌, ◌-◌, ◌^◌, ◌<◌, ◌≤◌, inl, inr, sym, refl, ap, subst, ◌∙◌, arith, ⊎_elim, List, [], ◌∷◌, ◌++◌, length, min, min-eq_left, min-eq_right, pow_mono, cases_lt, length-append, Contains, Contains-append_left, Contains-append_right, Contains-append_cases, AllPairs-from_increasing, Network, IsCidrBlock, Member, block_size, low, members, size_pos, high_fits, within_member, lists_members, length-count_up, InUnion, AggregateIsApart, own_address, contains_nil, contains_head, pairs_append, HasCount, total, IsAddressSet, capped}
use Rattle.ipnetwork_sets.proofs.Lists.{set_block}
use Rattle.ipnetwork_sets.proofs.Steps.{tail_is_set, union_cons, union_nil, union_behind}

-- ---- capped sums

pub kept_sum : (a b m : ℕ) → min (min a m + b) m ≡ min (a + b) m
kept_sum a b m =
    ⊎_elim
    (λ (l : a < m). let le : a ≤ m = omega arith in ap (λ k. min (k + b) m) (min-eq_left le))
    (λ (l : m ≤ a).
    let over : m ≤ m + b = omega arith in
    let more : m ≤ a + b = omega arith in
    ap (λ k. min (k + b) m) (min-eq_right l) ∙ min-eq_right over ∙ sym (min-eq_right more))
    (cases_lt a m)

pub total_push : (w : ℕ) (ns : List Network) (n : Network) → total w (ns ++ n ∷ []) ≡ total w ns + block_size w n.prefix
total_push w [] n = let e : block_size w n.prefix + 0 ≡ 0 + block_size w n.prefix = omega arith in e
total_push w (m ∷ ns) n =
    let e : total w (ns ++ n ∷ []) ≡ total w ns + block_size w n.prefix = total_push w ns n in
    let r : block_size w m.prefix + total w (ns ++ n ∷ []) ≡ block_size w m.prefix + total w ns + block_size w
    n.prefix = omega (arith, e) in r

-- one more network is counted
pub counts_more : (w count next : ℕ) (ns more : List Network) (n : Network) → count ≡ capped (total w ns)
    → more ≡ ns ++ n ∷ []
    → next ≡ min (count + block_size w n.prefix) (2 ^ 128) → next ≡ capped (total w more)
counts_more w count next ns more n e f g =
    g ∙ ap (λ k. min (k + block_size w n.prefix) (2 ^ 128)) e ∙ kept_sum (total w ns) (block_size w n.prefix) (2 ^ 128)
    ∙ ap (λ k. min k (2 ^ 128)) (sym (total_push w ns n)) ∙ ap (λ l. capped (total w l)) (sym f)

-- ---- the addresses of a set

pub total_fits : (w : ℕ) (bs : List Network) (from : ℕ) → AggregateIsApart → IsAddressSet w bs
    → ((x : ℕ) → InUnion w bs x → from ≤ x) → from ≤ 2 ^ w → from + total w bs ≤ 2 ^ w
total_fits w [] from apart h all fits = omega arith
total_fits w (b ∷ bs) from apart h all fits =
    let hb : IsCidrBlock w b = set_block w (b ∷ bs) b h (contains_head b bs) in
    let own : from ≤ b.address = all b.address ((union_cons w b bs b.address).1 (inl (own_address w b hb.network))) in
    let pos = size_pos w b.prefix in
    let top = high_fits w b hb.network in
    let block = hb.block in
    let rest = total_fits w bs (b.address + block_size w b.prefix) apart (tail_is_set w b bs apart h)
    (λ x c. let l = union_behind w b bs apart h x c in omega (arith, l, block, pos)) (omega (arith, top, block)) in
    omega (arith, rest, own)

pub counted : (w : ℕ) (bs : List Network) → AggregateIsApart → IsAddressSet w bs → HasCount (InUnion w bs) (total w bs)
counted w [] apart h = record {
  addresses = [];
  ascending = λ i j d l m. absurd (omega arith);
  exactly = λ x. ((λ c. absurd (contains_nil x c)), (λ c. absurd (union_nil w x c)));
  count = refl;
}
counted w (b ∷ bs) apart h =
    let hb : IsCidrBlock w b = set_block w (b ∷ bs) b h (contains_head b bs) in
    let first = lists_members w b hb.network in
    let rest = counted w bs apart (tail_is_set w b bs apart h) in
    record {
      addresses = members w b ++ rest.addresses;
      ascending = pairs_append (λ x y. x < y) (members w b) rest.addresses
          (AllPairs-from_increasing (members w b) first.ascending) rest.ascending
          (λ x y c d.
          let i = within_member w b x (first.each x c) in
          let l = union_behind w b bs apart h y ((rest.exactly y).0 d) in
          omega (arith, i.1, l));
      exactly = λ x. (
        (λ c. (union_cons w b bs x).1 (⊎_elim
            (λ (k : Contains (members w b) x). inl (first.each x k))
            (λ (k : Contains rest.addresses x). inr ((rest.exactly x).0 k))
            (Contains-append_cases (members w b) rest.addresses x c))),
        (λ u. ⊎_elim
            (λ (m : Member w b x). Contains-append_left (members w b) rest.addresses x (first.all x m))
            (λ (c : InUnion w bs x). Contains-append_right (members w b) rest.addresses x ((rest.exactly x).1 c))
            ((union_cons w b bs x).0 u)),
      );
      count =
          let sum : length (members w b ++ rest.addresses) ≡ length (members w b) + length rest.addresses =
          length-append (members w b) rest.addresses in
          omega (arith, sum, length-count_up (low w b) (block_size w b.prefix), rest.count);
    }

-- the total is at most the number of all addresses
pub total_is_within : (w : ℕ) (bs : List Network) → AggregateIsApart → IsAddressSet w bs → total w bs ≤ 2 ^ w
total_is_within w bs apart h = let fits = total_fits w bs 0 apart h (λ x c. omega arith) (omega arith) in
    omega (arith, fits)

-- the count of a set, if the addresses have at most 128 bits
pub has_count : (w : ℕ) (bs : List Network) (count : ℕ) → AggregateIsApart → IsAddressSet w bs
    → count ≡ capped (total w bs) → w ≤ 128 → HasCount (InUnion w bs) count
has_count w bs count apart h e le =
    let fits = total_fits w bs 0 apart h (λ x c. omega arith) (omega arith) in
    let small : 2 ^ w ≤ 2 ^ 128 = pow_mono le in
    let within : total w bs ≤ 2 ^ 128 = omega (arith, fits, small) in
    let is : count ≡ total w bs = e ∙ min-eq_left within in
    subst (λ (n : ℕ). HasCount (InUnion w bs) n) (sym is) (counted w bs apart h)

-- a block of 2^128 addresses or more
pub all_counted : (w p count bits : ℕ) → w - p ≡ bits → 128 ≤ bits → 2 ^ 128 ≡ min (count + block_size w p) (2 ^ 128)
all_counted w p count bits e le =
    let small : 2 ^ 128 ≤ 2 ^ bits = pow_mono le in
    let same : 2 ^ bits ≡ block_size w p = ap (λ k. 2 ^ k) (sym e) in
    let within : 2 ^ 128 ≤ count + block_size w p = omega (arith, small, same) in
    sym (min-eq_right within)
