-- A step of an iterator over the blocks of a set: the first block, and the set that is left.
use Rattle.ipnetwork_sets.proofs.Words.{◌≡◌, ◌↔◌, ℕ, suc, ◌<◌, ◌≤◌, ◌⊎◌, inl, inr, sym, subst, arith, ⊎_elim, List, [], ◌∷◌, cases_lt, Contains, Network, IsNetwork, IsCidrBlock, Member, Subnet, low, high, size_pos, has_ends, within_member, subnet_from, shares_address, nested, LiesIn, IsMaximalIn, IsLeastList, InUnion, AggregateIsApart, Follows, AreJoined, contains_cons, contains_head, contains_tail, contains_nil, pairs_tail, pairs_head, least_of_same, least_of_one, least_of_two, least_unique, IsAddressSet}
use Rattle.ipnetwork_sets.proofs.Lists.{set_is_joined, joined_is_set, set_block}

-- ---- the first block

-- a network of the set lies in its first maximal block, or after it
in_first_or_behind : (w : ℕ) (S T : ℕ → Type 0) (b : Network) → IsMaximalIn w S b → ((x : ℕ) → S x → Member w b x ⊎ T x)
    → ((x : ℕ) → T x → high w b < x)
    → (n : Network) → IsNetwork w n → LiesIn w S n → LiesIn w (Member w b) n ⊎ LiesIn w T n
in_first_or_behind w S T b m parts after n nn lies =
    let ends = has_ends w n nn in
    let first : ℕ = low w n in
    let pos = size_pos w b.prefix in
    ⊎_elim
    (λ (k : Member w b first). inl (⊎_elim
    (λ (s : Subnet w n b). s)
    (λ (s : Subnet w b n). ⊎_elim
    (λ (wide : n.prefix < b.prefix). let r : Subnet w n b = absurd (m.maximal n nn wide s lies) in r)
    (λ (le : b.prefix ≤ n.prefix).
    subnet_from w n b nn le (shares_address w n b first le nn m.network ends.low_is_member k))
    (cases_lt n.prefix b.prefix))
    (nested w n b nn m.network (first, ends.low_is_member, k))))
    (λ (t : T first). inr (λ x k.
    let behind = after first t in
    let i = within_member w n x k in
    ⊎_elim
    (λ (inside : Member w b x). let j = within_member w b x inside in
    let r : T x = absurd (omega (arith, i.0, j.1)) in r)
    (λ (u : T x). u) (parts x (lies x k))))
    (parts first (lies first ends.low_is_member))

-- the least list of a set is its first maximal block, followed by the least list of the addresses after that block
pub first_and_rest : (w : ℕ) (S T : ℕ → Type 0) (b : Network) (r s : List Network) → IsLeastList w S r
    → IsMaximalIn w S b → ((x : ℕ) → S x ↔ (Member w b x ⊎ T x))
    → ((x : ℕ) → T x → high w b < x) → IsLeastList w T s → r ≡ b ∷ s
first_and_rest w S T b r s h m parts after k =
    least_unique w S r (b ∷ s) h
    (least_of_two w S (Member w b) T (b ∷ []) s parts
    (λ x y mx t. let i = within_member w b x mx in let l = after y t in omega (arith, i.1))
    (in_first_or_behind w S T b m (λ x. (parts x).0) after)
    (least_of_one w b m.network m.block) k)

-- least lists of sets with the same addresses are equal
pub same_list : (w : ℕ) (S T : ℕ → Type 0) (r s : List Network) → IsLeastList w S r → IsLeastList w T s
    → ((x : ℕ) → S x ↔ T x) → r ≡ s
same_list w S T r s h k same = least_unique w T r s (least_of_same w S T r same h) k

-- ---- a set's first block and the others

pub joined_tail : (w : ℕ) (b : Network) (bs : List Network) → AreJoined w (b ∷ bs) → AreJoined w bs
joined_tail w b bs h = record {
  blocks = λ k d l. h.blocks (suc k) d (omega arith);
  pairs = pairs_tail (Follows w) b bs h.pairs;
}

pub tail_is_set : (w : ℕ) (b : Network) (bs : List Network) → AggregateIsApart → IsAddressSet w (b ∷ bs)
    → IsAddressSet w bs
tail_is_set w b bs law h = joined_is_set w bs (joined_tail w b bs (set_is_joined w (b ∷ bs) law h))

pub union_cons : (w : ℕ) (b : Network) (bs : List Network) (x : ℕ)
    → InUnion w (b ∷ bs) x ↔ (Member w b x ⊎ InUnion w bs x)
union_cons w b bs x = (
  (λ c. ⊎_elim
      (λ (e : b ≡ c.0). inl (subst (λ (n : Network). Member w n x) (sym e) c.2))
      (λ (d : Contains bs c.0). inr (c.0, d, c.2))
      (contains_cons b bs c.0 c.1)),
  (λ o. ⊎_elim
      (λ (m : Member w b x). (b, contains_head b bs, m))
      (λ (c : InUnion w bs x). (c.0, contains_tail b bs c.0 c.1, c.2)) o),
)

pub union_nil : (w x : ℕ) → ¬ (InUnion w [] x)
union_nil w x c = contains_nil c.0 c.1

-- no address of the others comes before the end of the first
pub union_behind : (w : ℕ) (b : Network) (bs : List Network) → AggregateIsApart → IsAddressSet w (b ∷ bs) → (x : ℕ)
    → InUnion w bs x → high w b < x
union_behind w b bs law h x c =
    let R : Network → Network → Type 0 = λ a b. high w a < b.address in
    let l : high w b < c.0.address = pairs_head R b bs (law w (b ∷ bs) (b ∷ bs) h) c.0 c.1 in
    let k : IsCidrBlock w c.0 = set_block w (b ∷ bs) c.0 h (contains_tail b bs c.0 c.1) in
    let i = within_member w c.0 x c.2 in
    omega (arith, i.0, k.block)

-- no address of a set comes before that of its first block
pub union_from : (w : ℕ) (b : Network) (bs : List Network) → AggregateIsApart → IsAddressSet w (b ∷ bs) → (x : ℕ)
    → InUnion w (b ∷ bs) x → b.address ≤ x
union_from w b bs law h x c =
    let k : IsCidrBlock w b = set_block w (b ∷ bs) b h (contains_head b bs) in
    let pos = size_pos w b.prefix in
    ⊎_elim
    (λ (m : Member w b x). let i = within_member w b x m in omega (arith, i.0, k.block))
    (λ (d : InUnion w bs x). let l = union_behind w b bs law h x d in omega (arith, k.block))
    ((union_cons w b bs x).0 c)

pub first_is_maximal : (w : ℕ) (b : Network) (bs : List Network) → IsAddressSet w (b ∷ bs)
    → IsMaximalIn w (InUnion w (b ∷ bs)) b
first_is_maximal w b bs h = (h.maximal b).0 (contains_head b bs)

-- a block that is maximal in a set is maximal in each part of the set that it lies in
pub maximal_in_part : (w : ℕ) (S T : ℕ → Type 0) (b : Network) → IsMaximalIn w S b → ((x : ℕ) → T x → S x)
    → LiesIn w T b → IsMaximalIn w T b
maximal_in_part w S T b m part lies = record {
  network = m.network;
  block = m.block;
  lies = lies;
  maximal = λ n nn lt sub within. m.maximal n nn lt sub (λ x k. part x (within x k));
}
