-- Counts, ranges, lists, free blocks and texts at which a misreading of the definitions would show.
use Rattle.ipnetwork_sets.proofs.Words.{◌≡◌, ◌∙◌, ℕ, ◌-◌, ◌*◌, ◌/◌, ◌^◌, ◌+◌, ◌<◌, ◌≤◌, sym, refl, subst, ⊎_elim, ap, arith, List, [], ◌∷◌, ◌++◌, length, Ok, Err, Contains, Network, IsCidrBlock, Member, subnet_from, NetworkSizeError, IsLeastList, FromTo, blocks_within, contains_cons, contains_nil, contains_head, contains_tail, least_unique, least_from_to, least_from_after, FitsNumber, count_number, IsFreeBlock, NoBlockIsFree, IsFirstFree, IsRangeList, InRanges, AreBlocksOf, AddsLeastList, AddsFirstOfLeastList, MeetsUnion, lines_of, Number, AllOfIpv6}

abbrev net : ℕ → ℕ → Network
net address prefix = record { address = address; prefix = prefix }

-- ---- 2^128 - 1 fits in 128 bits, and 2^128 does not

pub greatest_number : FitsNumber (Number 340282366920938463463374607431768211455)
    (Ok 340282366920938463463374607431768211455)
greatest_number = (omega arith, refl)

pub greatest_number_is_not_refused : (fault : NetworkSizeError)
    → ¬ (FitsNumber (Number 340282366920938463463374607431768211455) (Err fault))
greatest_number_is_not_refused fault h = omega (arith, h)

pub all_of_ipv6_is_refused : (n : ℕ) → ¬ (FitsNumber AllOfIpv6 (Ok n))
all_of_ipv6_is_refused n h = omega (arith, h.0)

pub number_of_all_of_ipv6 : count_number AllOfIpv6 ≡ 340282366920938463463374607431768211456
number_of_all_of_ipv6 = refl

-- ---- a range has both its ends and no address outside them, and a reversed range has no addresses

pub last_is_in_the_range : InRanges ((7, 7) ∷ (2, 4) ∷ []) 4
last_is_in_the_range =
    ((2, 4), contains_tail (7, 7) ((2, 4) ∷ []) (2, 4) (contains_head (2, 4) []), (omega arith, omega arith))

pub first_is_in_the_range : InRanges ((2, 4) ∷ []) 2
first_is_in_the_range = ((2, 4), contains_head (2, 4) [], (omega arith, omega arith))

in_one_range : (first last x : ℕ) → InRanges ((first, last) ∷ []) x → (first ≤ x) × (x ≤ last)
in_one_range first last x (r, c, m) =
    ⊎_elim
    (λ (e : (first, last) ≡ r). subst (λ (s : ℕ × ℕ). (s.0 ≤ x) × (x ≤ s.1)) (sym e) m)
    (λ (none : Contains [] r). absurd (contains_nil r none))
    (contains_cons (first, last) [] r c)

pub before_the_range : ¬ (InRanges ((2, 4) ∷ []) 1)
before_the_range h = omega (arith, (in_one_range 2 4 1 h).0)

pub behind_the_range : ¬ (InRanges ((2, 4) ∷ []) 5)
behind_the_range h = omega (arith, (in_one_range 2 4 5 h).1)

pub range_without_addresses : (x : ℕ) → ¬ (InRanges ((4, 3) ∷ []) x)
range_without_addresses x h = let m = in_one_range 4 3 x h in omega (arith, m.0, m.1)

-- ---- adjacent ranges are joined

pub touching_ranges : ¬ (IsRangeList (λ x. x < 8) ((0, 3) ∷ (4, 7) ∷ []))
touching_ranges h =
    let apart : 3 + 1 < 4 = h.apart 0 1 (0, 0) (omega arith) (omega arith) in
    omega (arith, apart)

-- a range list has no range whose first address comes after its last
pub range_turned_round : ¬ (IsRangeList (λ x. x < 0) ((3, 2) ∷ []))
range_turned_round h =
    let ordered : 3 ≤ 2 = h.ordered 0 (0, 0) (omega arith) in
    omega (arith, ordered)

-- ---- blocks are pushed after those in the list, and are not joined with them

one_and_two : IsLeastList 3 (FromTo 1 2) (net 1 3 ∷ net 2 3 ∷ [])
unfolding blocks_within
one_and_two = least_from_to 3 1 2 (omega arith)

pub pushed_after : AddsLeastList 3 (FromTo 1 2) (net 7 3 ∷ net 0 3 ∷ []) (net 7 3 ∷ net 0 3 ∷ net 1 3 ∷ net 2 3 ∷ [])
unfolding blocks_within
pushed_after = (net 1 3 ∷ net 2 3 ∷ [], least_from_to 3 1 2 (omega arith), refl)

-- after an error, the first of two blocks may have been pushed
pub first_pushed : AddsFirstOfLeastList 3 (FromTo 1 2) (net 7 3 ∷ []) (net 7 3 ∷ net 1 3 ∷ [])
unfolding blocks_within
first_pushed = (net 1 3 ∷ [], net 2 3 ∷ [], least_from_to 3 1 2 (omega arith), refl)

-- the second block is never pushed without the first
abbrev first_address : List Network → ℕ
first_address [] = 0
first_address (x ∷ xs) = x.address

abbrev second_address : List Network → ℕ
second_address [] = 0
second_address (x ∷ xs) = first_address xs

pub second_without_the_first : ¬ (AddsFirstOfLeastList 3 (FromTo 1 2) (net 7 3 ∷ []) (net 7 3 ∷ net 2 3 ∷ []))
second_without_the_first h = go h.0 h.1 h.2 h.3
  where
    go : (some others : List Network) → IsLeastList 3 (FromTo 1 2) (some ++ others)
        → net 7 3 ∷ net 2 3 ∷ [] ≡ net 7 3 ∷ some → ⊥
    go [] others h e = omega (arith, ap length e)
    go (x ∷ xs) others h e =
        let both = least_unique 3 (FromTo 1 2) (net 1 3 ∷ net 2 3 ∷ []) (x ∷ (xs ++ others)) one_and_two h in
        omega (arith, ap first_address both, ap second_address e)

-- after success, both blocks are in the list
pub first_alone : ¬ (AddsLeastList 3 (FromTo 1 2) (net 7 3 ∷ []) (net 7 3 ∷ net 1 3 ∷ []))
first_alone h =
    let both = least_unique 3 (FromTo 1 2) (net 1 3 ∷ net 2 3 ∷ []) h.0 one_and_two h.1 in
    omega (arith, ap length both, ap length h.2)

-- the blocks of two ranges are in the order of the ranges and are not joined
pub blocks_of_two : AreBlocksOf 3 ((3, 3) ∷ (2, 2) ∷ []) (net 3 3 ∷ net 2 3 ∷ [])
unfolding blocks_within
blocks_of_two = (
  net 3 3 ∷ [],
  net 2 3 ∷ [],
  least_from_to 3 3 3 (omega arith),
  (net 2 3 ∷ [], [], least_from_to 3 2 2 (omega arith), refl, refl),
  refl,
)

-- no other blocks follow those of the ranges
pub blocks_of_one : (blocks : List Network) → AreBlocksOf 3 ((1, 2) ∷ []) blocks → blocks ≡ net 1 3 ∷ net 2 3 ∷ []
blocks_of_one blocks (first, others, least, none, all) =
    all ∙ ap (λ (xs : List Network). xs ++ others)
    (least_unique 3 (FromTo 1 2) first (net 1 3 ∷ net 2 3 ∷ []) least one_and_two)
    ∙ ap (λ (ys : List Network). net 1 3 ∷ net 2 3 ∷ ys) none

-- a reversed range has no blocks
pub no_blocks_of_none : AreBlocksOf 3 ((3, 2) ∷ []) []
no_blocks_of_none = ([], [], least_from_after 3 3 2 (omega arith), refl, refl)

-- ---- the first free quarter, if the first quarter is taken

is_block : (a p : ℕ) → a < 8 → p < 4 → a ≡ a / 2 ^ (3 - p) * 2 ^ (3 - p) → IsCidrBlock 3 (net a p)
is_block a p l m e = record { network = record { address_fits = l; prefix_fits = omega arith }; block = e }

apart : (x : ℕ) → Member 3 (net 2 2) x → MeetsUnion 3 (net 2 2) (net 0 2 ∷ []) → ⊥
apart x m c =
    ⊎_elim
    (λ (e : net 0 2 ≡ c.2.0).
    let first : Member 3 (net 0 2) c.0 = subst (λ (n : Network). Member 3 n c.0) (sym e) c.2.2 in
    let low : c.0 / 2 ≡ 0 = first.1 in
    let high : c.0 / 2 ≡ 1 = c.1.1 in
    omega (arith, low, high))
    (λ (none : Contains [] c.2.0). contains_nil c.2.0 none)
    (contains_cons (net 0 2) [] c.2.0 c.2.1)

second_quarter : IsFreeBlock 3 (net 0 0) (net 0 2 ∷ []) 2 (net 2 2)
second_quarter =
    let block : IsCidrBlock 3 (net 2 2) = is_block 2 2 (omega arith) (omega arith) refl in
    record {
      block = block;
      as_long = refl;
      within = subnet_from 3 (net 2 2) (net 0 0) block.network (omega arith) (omega arith, refl);
      free = λ c. apart c.0 c.1 c;
    }

pub third_quarter_is_not_first : ¬ (IsFirstFree 3 (net 0 0) (net 0 2 ∷ []) 2 (net 4 2))
third_quarter_is_not_first h = omega (arith, h.first (net 2 2) second_quarter)

pub some_quarter_is_free : ¬ (NoBlockIsFree 3 (net 0 0) (net 0 2 ∷ []) 2)
some_quarter_is_free none = none (net 2 2) second_quarter

-- for any networks: the first free block is free, no free block begins before it, and there is one if a block is free
pub first_is_free : (w p : ℕ) (n b : Network) (ns : List Network) → IsFirstFree w n ns p b → IsFreeBlock w n ns p b
first_is_free w p n b ns h = h.one

pub none_before_the_first : (w p : ℕ) (n b other : Network) (ns : List Network) → IsFirstFree w n ns p b
    → other.address < b.address → ¬ (IsFreeBlock w n ns p other)
none_before_the_first w p n b other ns h before free = omega (arith, h.first other free, before)

pub not_none_if_one_is_free : (w p : ℕ) (n b : Network) (ns : List Network) → IsFreeBlock w n ns p b
    → ¬ (NoBlockIsFree w n ns p)
not_none_if_one_is_free w p n b ns free none = none b free

-- ---- a line feed follows each text, including the last

pub two_lines : lines_of (λ n. n.address ∷ []) (net 65 32 ∷ net 66 32 ∷ []) ≡ 65 ∷ 10 ∷ 66 ∷ 10 ∷ []
two_lines = refl
