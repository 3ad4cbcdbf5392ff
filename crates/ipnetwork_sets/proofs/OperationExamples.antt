-- Sets of 3-bit addresses, `a` of 0 to 3 and 6 and `b` of 2 to 5: every address of each operation's result.
use Rattle.ipnetwork_sets.proofs.Words.{◌≡◌, ◌↔◌, ℕ, ◌/◌, inr, refl, arith, ⊎_elim, List, [], ◌∷◌, None, Network, Member, InUnion, IsLeastList, contains_head, least_of_same, union_of_none, union_of_list, total, InBoth, InFirstAlone, InNetworkAlone, InComplement, InEither, IsWithin, AreDisjoint, all_from, least_within, least_blocks, in_union, is_from, common_blocks, left_blocks, either_blocks, InLeft}
use Rattle.ipnetwork_sets.proofs.LeastBlocks.{common_is_least, left_is_least, either_is_least}
use Rattle.ipnetwork_sets.proofs.WholeSpace.{whole, complement_is_least}

abbrev net : ℕ → ℕ → Network
net address prefix = record { address = address; prefix = prefix }

abbrev a : List Network
a = net 0 1 ∷ net 6 3 ∷ []

abbrev b : List Network
b = net 2 2 ∷ net 4 2 ∷ []

pub common : IsLeastList 3 (InBoth 3 a b) (net 2 2 ∷ [])
unfolding common_blocks least_blocks least_within all_from in_union
common = common_is_least 3 a b

pub either : IsLeastList 3 (InEither 3 a b) (net 0 1 ∷ net 4 2 ∷ net 6 3 ∷ [])
unfolding either_blocks least_blocks least_within all_from in_union
either = either_is_least 3 a b

alone : (first second blocks : List Network) → IsLeastList 3 (InLeft 3 None first second) blocks
    → IsLeastList 3 (InFirstAlone 3 first second) blocks
alone first second blocks =
    least_of_same 3 (InLeft 3 None first second) (InFirstAlone 3 first second) blocks
    (λ x. (
      (λ p. (⊎_elim (λ (none : ⊥). absurd none) (λ (c : InUnion 3 first x). c) p.0, p.1)),
      (λ p. (inr p.0, p.1)),
    ))

pub first_alone : IsLeastList 3 (InFirstAlone 3 a b) (net 0 2 ∷ net 6 3 ∷ [])
unfolding left_blocks least_blocks least_within all_from in_union is_from
first_alone = alone a b (net 0 2 ∷ net 6 3 ∷ []) (left_is_least 3 None a b)

pub second_alone : IsLeastList 3 (InFirstAlone 3 b a) (net 4 2 ∷ [])
unfolding left_blocks least_blocks least_within all_from in_union is_from
second_alone = alone b a (net 4 2 ∷ []) (left_is_least 3 None b a)

-- the addresses of one network
in_one : (w : ℕ) (n : Network) (x : ℕ) → InUnion w (n ∷ []) x ↔ Member w n x
in_one w n x = (
  (λ c. ⊎_elim (λ (m : Member w n x). m) (λ (d : InUnion w [] x). absurd (union_of_none w x d))
      ((union_of_list w n [] x).0 c)),
  (λ m. (n, contains_head n [], m)),
)

network_alone : (n : Network) (second blocks : List Network) → IsLeastList 3 (InLeft 3 None (n ∷ []) second) blocks
    → IsLeastList 3 (InNetworkAlone 3 n second) blocks
network_alone n second blocks h =
    least_of_same 3 (InFirstAlone 3 (n ∷ []) second) (InNetworkAlone 3 n second) blocks
    (λ x. ((λ p. ((in_one 3 n x).0 p.0, p.1)), (λ p. ((in_one 3 n x).1 p.0, p.1))))
    (alone (n ∷ []) second blocks h)

-- host bits of the network make no difference
pub free_in_a_half : IsLeastList 3 (InNetworkAlone 3 (net 5 1) b) (net 6 2 ∷ [])
unfolding left_blocks least_blocks least_within all_from in_union is_from
free_in_a_half = network_alone (net 5 1) b (net 6 2 ∷ []) (left_is_least 3 None (net 5 1 ∷ []) b)

pub all_others : IsLeastList 3 (InComplement 3 a) (net 4 2 ∷ net 7 3 ∷ [])
unfolding left_blocks least_blocks least_within all_from in_union is_from
all_others =
    complement_is_least 3 whole a (net 4 2 ∷ net 7 3 ∷ []) refl
    (network_alone whole a (net 4 2 ∷ net 7 3 ∷ []) (left_is_least 3 None (whole ∷ []) a))

-- ---- questions

pub part_is_within : IsWithin 3 (net 2 2 ∷ []) a
part_is_within x c =
    let m : Member 3 (net 2 2) x = (in_one 3 (net 2 2) x).0 c in
    let half : x / 2 ≡ 1 = m.1 in
    let quarter : x / 4 ≡ 0 = omega (arith, half) in
    (net 0 1, contains_head (net 0 1) (net 6 3 ∷ []), (m.0, quarter))

pub whole_is_not_within_its_part : ¬ (IsWithin 3 a (net 2 2 ∷ []))
whole_is_not_within_its_part h =
    let m : Member 3 (net 2 2) 0 =
    (in_one 3 (net 2 2) 0).0 (h 0 (net 0 1, contains_head (net 0 1) (net 6 3 ∷ []), (omega arith, refl))) in
    let half : 0 ≡ 1 = m.1 in
    omega (arith, half)

pub no_address_is_shared : AreDisjoint 3 (net 4 2 ∷ []) a
no_address_is_shared x p =
    let m : Member 3 (net 4 2) x = (in_one 3 (net 4 2) x).0 p.0 in
    let third : x / 2 ≡ 2 = m.1 in
    ⊎_elim
    (λ (o : Member 3 (net 0 1) x). let low : x / 4 ≡ 0 = o.1 in omega (arith, third, low))
    (λ (c : InUnion 3 (net 6 3 ∷ []) x). let o : Member 3 (net 6 3) x = (in_one 3 (net 6 3) x).0 c in
    let six : x / 1 ≡ 6 = o.1 in omega (arith, third, six))
    ((union_of_list 3 (net 0 1) (net 6 3 ∷ []) x).0 p.1)

pub two_is_shared : ¬ (AreDisjoint 3 a b)
two_is_shared h =
    h 2 (
      (net 0 1, contains_head (net 0 1) (net 6 3 ∷ []), (omega arith, refl)),
      (net 2 2, contains_head (net 2 2) (net 4 2 ∷ []), (omega arith, refl)),
    )

pub five_addresses : total 3 a ≡ 5
five_addresses = refl
