-- Aggregates that would reveal a misreading of the definitions, over 4-bit addresses.
use Rattle.ipnetwork_blocks.proofs.Words.{cases_lt, ◌≡◌, ◌≤◌, ℕ, zero, suc, ◌-◌, ◌*◌, ◌/◌, ◌^◌, ◌<◌, refl, ap, sym, subst, arith, ⊎_elim, [], ◌∷◌, length, get_or, Contains, filter_map, Network, IsCidrBlock, Member, high, subnet_from, V4, V6, IsMaximalIn, InUnion, LiesInUnion, SameUnion, IsAggregate, as_v4, as_v6, AreJoined}
use Rattle.ipnetwork_blocks.proofs.LeastLists.{contains_cons, contains_head, contains_nil, contains_tail}
use Rattle.ipnetwork_blocks.proofs.AggregateUnions.{union_same, union_skip, union_join, union_cleared}
use Rattle.ipnetwork_blocks.proofs.AggregateFront.{joined_nil, joined_push}
use Rattle.ipnetwork_blocks.proofs.AggregateJoined.{joined_is_aggregate}

abbrev pub net : ℕ → ℕ → Network
net a p = record { address = a; prefix = p }

is_block : (a p : ℕ) → a < 16 → p < 5 → a ≡ a / 2 ^ (4 - p) * 2 ^ (4 - p) → IsCidrBlock 4 (net a p)
is_block a p l m e = record { network = record { address_fits = l; prefix_fits = omega arith }; block = e }

first_quarter : IsCidrBlock 4 (net 0 2)
first_quarter = is_block 0 2 (omega arith) (omega arith) refl

second_quarter : IsCidrBlock 4 (net 4 2)
second_quarter = is_block 4 2 (omega arith) (omega arith) refl

third_quarter : IsCidrBlock 4 (net 8 2)
third_quarter = is_block 8 2 (omega arith) (omega arith) refl

first_half : IsCidrBlock 4 (net 0 1)
first_half = is_block 0 1 (omega arith) (omega arith) refl

single : (b : Network) → IsCidrBlock 4 b → AreJoined 4 (b ∷ [])
single b block = joined_push 4 [] b (joined_nil 4) block (λ i d l. absurd (omega arith)) (λ d l. absurd (omega arith))

-- the aggregate of two halves is the block that they make up
pub halves : IsAggregate 4 (net 0 2 ∷ net 4 2 ∷ []) (net 0 1 ∷ [])
halves =
    joined_is_aggregate 4 (net 0 2 ∷ net 4 2 ∷ []) (net 0 1 ∷ []) (single (net 0 1) first_half)
    (union_join 4 [] (net 0 2) (net 4 2) first_quarter second_quarter (omega arith)
    (refl, omega arith, (omega arith, refl)))

-- neither half is maximal
pub half_is_not_maximal : ¬ (IsMaximalIn 4 (InUnion 4 (net 0 2 ∷ net 4 2 ∷ [])) (net 0 2))
half_is_not_maximal m =
    ⊎_elim
    (λ (e : net 0 1 ≡ net 0 2). let lengths : 1 ≡ 2 = ap (λ n. n.prefix) e in omega arith)
    (λ (c : Contains [] (net 0 2)). contains_nil (net 0 2) c)
    (contains_cons (net 0 1) [] (net 0 2) ((halves.maximal (net 0 2)).1 m))

-- adjacent blocks that are not the halves of one block remain
before_the_third : (i : ℕ) (d : Network) → i < length (net 4 2 ∷ []) → high 4 (get_or (net 4 2 ∷ []) i d) < 8
before_the_third zero d l = omega arith
before_the_third (suc i) d l = absurd (omega arith)

pub no_halves : IsAggregate 4 (net 4 2 ∷ net 8 2 ∷ []) (net 4 2 ∷ net 8 2 ∷ [])
no_halves =
    joined_is_aggregate 4 (net 4 2 ∷ net 8 2 ∷ []) (net 4 2 ∷ net 8 2 ∷ [])
    (joined_push 4 (net 4 2 ∷ []) (net 8 2) (single (net 4 2) second_quarter) third_quarter before_the_third
    (λ d l s. let quotients : 1 ≡ 0 = s.2.1 in omega arith))
    (union_same 4 (net 4 2 ∷ net 8 2 ∷ []))

-- host bits are cleared
pub host_bits : IsAggregate 4 (net 5 2 ∷ []) (net 4 2 ∷ [])
host_bits = joined_is_aggregate 4 (net 5 2 ∷ []) (net 4 2 ∷ []) (single (net 4 2) second_quarter)
    (union_cleared 4 (net 5 2 ∷ []))

-- a network that lies in another is dropped
pub nested_network : IsAggregate 4 (net 0 1 ∷ net 4 2 ∷ []) (net 0 1 ∷ [])
nested_network =
    joined_is_aggregate 4 (net 0 1 ∷ net 4 2 ∷ []) (net 0 1 ∷ []) (single (net 0 1) first_half)
    (union_skip 4 (net 0 1 ∷ []) (net 4 2) (net 0 1) (contains_head (net 0 1) [])
    (subnet_from 4 (net 4 2) (net 0 1) second_quarter.network (omega arith) (omega arith, refl)))

-- no networks have an empty aggregate
pub no_networks : IsAggregate 4 [] []
no_networks = joined_is_aggregate 4 [] [] (joined_nil 4) (union_same 4 [])

-- the networks of each family keep their order
pub v4_alone : filter_map as_v4 (V6 (net 1 128) ∷ V4 (net 2 32) ∷ V6 (net 3 128) ∷ V4 (net 1 32) ∷ []) ≡ net 2 32
    ∷ net 1 32 ∷ []
v4_alone = refl

pub v6_alone : filter_map as_v6 (V6 (net 3 128) ∷ V4 (net 2 32) ∷ V6 (net 1 128) ∷ V4 (net 1 32) ∷ []) ≡ net 3 128
    ∷ net 1 128 ∷ []
v6_alone = refl

-- ---- unions

-- a network lies in the union of its halves, though in neither half
pub half_in_two_quarters : LiesInUnion 4 (net 3 1) (net 0 2 ∷ net 4 2 ∷ [])
half_in_two_quarters x m =
    let half : x / 8 ≡ 0 = m.1 in
    ⊎_elim
    (λ (lower : x < 4). let first : x / 4 ≡ 0 = omega (arith, lower) in
    (net 0 2, contains_head (net 0 2) (net 4 2 ∷ []), (m.0, first)))
    (λ (upper : 4 ≤ x).
    let second : x / 4 ≡ 1 = omega (arith, half, upper) in
    (net 4 2, contains_tail (net 0 2) (net 4 2 ∷ []) (net 4 2) (contains_head (net 4 2) []), (m.0, second)))
    (cases_lt x 4)

in_first_quarter : (x : ℕ) → InUnion 4 (net 0 2 ∷ []) x → Member 4 (net 0 2) x
in_first_quarter x c =
    ⊎_elim
    (λ (e : net 0 2 ≡ c.0). subst (λ (n : Network). Member 4 n x) (sym e) c.2)
    (λ (none : Contains [] c.0). absurd (contains_nil c.0 none))
    (contains_cons (net 0 2) [] c.0 c.1)

pub half_not_in_one_quarter : ¬ (LiesInUnion 4 (net 3 1) (net 0 2 ∷ []))
half_not_in_one_quarter h =
    let quarter : 1 ≡ 0 = (in_first_quarter 4 (h 4 (omega arith, refl))).1 in
    omega (arith, quarter)

-- order, repetition and host bits make no difference
pub same_addresses : SameUnion 4 (net 5 2 ∷ []) (net 4 2 ∷ net 6 2 ∷ [])
same_addresses x = (
  (λ c. ⊎_elim
      (λ (e : net 5 2 ≡ c.0). let m : Member 4 (net 5 2) x = subst (λ (n : Network). Member 4 n x) (sym e) c.2 in
      (net 4 2, contains_head (net 4 2) (net 6 2 ∷ []), (m.0, m.1)))
      (λ (none : Contains [] c.0). absurd (contains_nil c.0 none))
      (contains_cons (net 5 2) [] c.0 c.1)),
  (λ c. ⊎_elim
      (λ (e : net 4 2 ≡ c.0). let m : Member 4 (net 4 2) x = subst (λ (n : Network). Member 4 n x) (sym e) c.2 in
      (net 5 2, contains_head (net 5 2) [], (m.0, m.1)))
      (λ (d : Contains (net 6 2 ∷ []) c.0). ⊎_elim
      (λ (e : net 6 2 ≡ c.0). let m : Member 4 (net 6 2) x = subst (λ (n : Network). Member 4 n x) (sym e) c.2 in
      (net 5 2, contains_head (net 5 2) [], (m.0, m.1)))
      (λ (none : Contains [] c.0). absurd (contains_nil c.0 none))
      (contains_cons (net 6 2) [] c.0 d))
      (contains_cons (net 4 2) (net 6 2 ∷ []) c.0 c.1)),
)

pub other_addresses : ¬ (SameUnion 4 (net 0 1 ∷ []) (net 0 2 ∷ []))
other_addresses same =
    let quarter : 1 ≡ 0 = (in_first_quarter 4 ((same 4).0 (net 0 1, contains_head (net 0 1) [], (omega arith, refl)))).1
    in
    omega (arith, quarter)
