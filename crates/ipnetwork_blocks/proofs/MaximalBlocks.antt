-- Each address of a set lies in one maximal block, and no shorter list of networks has all of the addresses.
use Rattle.ipnetwork_blocks.proofs.Words.{◌≡◌, ◌↔◌, ℕ, zero, suc, ◌+◌, ◌-◌, ◌/◌, ◌^◌, ◌<◌, ◌≤◌, ◌⊎◌, inl, inr, sym, ap, subst, ◌∙◌, arith, ⊎_elim, List, [], ◌∷◌, length, get_or, cases_lt, cases_eq, cases_order, get_or_default, length-remove, get_or-remove_below, get_or-remove_above, All-contains, Contains-get_or, All, AllPairs, Contains, remove, Network, IsNetwork, Member, low, high, block_size, block_at, Subnet, size_pos, within_member, member_within, subnet_from, shares_address, nested, block_begins, block_at_network, block_at_holds, block_at_subnet, LiesIn, IsMaximalIn, IsLeastList, InUnion, IsShortest, RangeIsShortest, FromTo}
use Rattle.ipnetwork_blocks.proofs.LeastLists.{contains_head, contains_tail, pairs_tail, pairs_head, own_address, maximal_apart, least_unique}

-- ---- each address of the set lies in a maximal block, if membership in the set is decidable

-- count consecutive addresses are all in the set, or one of them is not
row_or_not : (S : ℕ → Type 0) → ((x : ℕ) → S x ⊎ ¬ (S x)) → (start count : ℕ)
    → ((x : ℕ) → start ≤ x → x < start + count → S x) ⊎ ((x : ℕ) × (start ≤ x) × (x < start + count) × ¬ (S x))
row_or_not S tells start zero = inl (λ x l m. absurd (omega arith))
row_or_not S tells start (suc count) =
    ⊎_elim
    (λ (all : (x : ℕ) → start ≤ x → x < start + count → S x). ⊎_elim
    (λ (last : S (start + count)). inl (λ x l m. ⊎_elim
    (λ (b : x < start + count). all x l b)
    (λ (b : start + count ≤ x). let e : start + count ≡ x = omega arith in subst S e last)
    (cases_lt x (start + count))))
    (λ (misses : ¬ (S (start + count))). inr (start + count, omega arith, omega arith, misses))
    (tells (start + count)))
    (λ (miss : (x : ℕ) × (start ≤ x) × (x < start + count) × ¬ (S x)). let l = miss.2 in
    inr (miss.0, miss.1, omega arith, miss.3))
    (row_or_not S tells start count)

lies_or_not : (w : ℕ) (S : ℕ → Type 0) → ((x : ℕ) → S x ⊎ ¬ (S x)) → (b : Network) → IsNetwork w b
    → LiesIn w S b ⊎ ¬ (LiesIn w S b)
lies_or_not w S tells b h =
    let from : ℕ = low w b in
    let size : ℕ = block_size w b.prefix in
    ⊎_elim
    (λ (all : (x : ℕ) → from ≤ x → x < from + size → S x). inl (λ x m. let i = within_member w b x m in all x i.0 i.1))
    (λ (miss : (x : ℕ) × (from ≤ x) × (x < from + size) × ¬ (S x)). inr
    (λ all. miss.3 (all miss.0 (member_within w b h miss.0 miss.1 miss.2))))
    (row_or_not S tells from size)

widest_from : (w : ℕ) (S : ℕ → Type 0) → ((x : ℕ) → S x ⊎ ¬ (S x)) → (x p : ℕ) → p ≤ w → x < 2 ^ w
    → LiesIn w S (block_at w x p)
    → (b : Network) × IsMaximalIn w S b × Member w b x
widest_from w S tells x zero h l lies = (
  block_at w x 0,
  record {
    network = (block_at_network w x 0 l h).network;
    block = block_begins w (record { address = x; prefix = 0 });
    lies = lies;
    maximal = λ c cn lt sub more. absurd (omega arith);
  },
  block_at_holds w x 0 l,
)
widest_from w S tells x (suc p) h l lies =
    let fits : p ≤ w = omega arith in
    ⊎_elim
    (λ (more : LiesIn w S (block_at w x p)). widest_from w S tells x p fits l more)
    (λ (fails : ¬ (LiesIn w S (block_at w x p))). (
      block_at w x (suc p),
      record {
        network = (block_at_network w x (suc p) l h).network;
        block = block_begins w (record { address = x; prefix = suc p });
        lies = lies;
        maximal = λ c cn lt sub more. fails
            (λ y m. more y (block_at_subnet w x p c (omega arith) fits (sub x (block_at_holds w x (suc p) l)) y m));
      },
      block_at_holds w x (suc p) l,
    ))
    (lies_or_not w S tells (block_at w x p) ((block_at_network w x p l fits).network))

pub in_a_maximal : (w : ℕ) (S : ℕ → Type 0) → ((x : ℕ) → S x ⊎ ¬ (S x)) → (x : ℕ) → x < 2 ^ w → S x
    → (b : Network) × IsMaximalIn w S b × Member w b x
in_a_maximal w S tells x l s =
    let alone : (y : ℕ) → Member w (block_at w x w) y → x ≡ y = λ y m.
    let size : block_size w w ≡ 1 = let e : w - w ≡ 0 = omega arith in ap (λ k. 2 ^ k) e in
    let i = within_member w (block_at w x w) y m in
    let j = within_member w (block_at w x w) x (block_at_holds w x w l) in
    omega (arith, i.0, i.1, j.0, j.1, size) in
    widest_from w S tells x w (omega arith) l (λ y m. subst S (alone y m) s)

has_set : (w : ℕ) (S : ℕ → Type 0) (r : List Network) → ((x : ℕ) → S x ⊎ ¬ (S x)) → ((x : ℕ) → S x → x < 2 ^ w)
    → IsLeastList w S r
    → (x : ℕ) → InUnion w r x ↔ S x
has_set w S r tells fits h x = (
  (λ c. ((h.maximal c.0).0 c.1).lies x c.2),
  (λ s. let o = in_a_maximal w S tells x (fits x s) s in (o.0, (h.maximal o.0).1 o.1, o.2)),
)

-- ---- least lists

least_is_apart : (w : ℕ) (S : ℕ → Type 0) (r : List Network) → IsLeastList w S r
    → AllPairs (λ a b. high w a < b.address) r
least_is_apart w S r h i j d l m =
    let a : Network = get_or r i d in
    let b : Network = get_or r j d in
    let ma : IsMaximalIn w S a = (h.maximal a).0 (Contains-get_or r i d (omega arith)) in
    let mb : IsMaximalIn w S b = (h.maximal b).0 (Contains-get_or r j d m) in
    let less : a.address < b.address = h.ascending i j d l m in
    ⊎_elim (λ (ok : high w a < b.address). ok)
    (λ (le : b.address ≤ high w a).
    let inside : Member w a b.address = member_within w a ma.network b.address (omega (arith, ma.block))
    (omega (arith, size_pos w a.prefix)) in
    let same : a ≡ b = maximal_apart w S a b ma mb b.address inside (own_address w b mb.network) in
    let at : a.address ≡ b.address = ap (λ n. n.address) same in
    let r : high w a < b.address = absurd (omega arith) in r)
    (cases_lt (high w a) b.address)

-- ---- no shorter list of networks has the same addresses

-- an element other than the removed one remains
contains_removed : {X : Type 0} (ys : List X) (i : ℕ) (y : X) → i < length ys → (c : Contains ys y) → (c.0 ≡ i → ⊥)
    → Contains (remove ys i) y
contains_removed {X} ys i y l c other =
    let size = length-remove ys i l in
    let k : ℕ = c.0 in
    let kl : k < length ys = c.1 in
    ⊎_elim (λ (e : k ≡ i). absurd (other e))
    (λ (o : (k < i) ⊎ (i < k)). ⊎_elim
    (λ (b : k < i). let fits : k < length (remove ys i) = omega arith in
    (k, fits, get_or-remove_below ys i y k b l ∙ c.2))
    (λ (b : i < k).
    let fits : k - 1 < length (remove ys i) = omega arith in
    let back : k - 1 + 1 ≡ k = omega arith in
    (k - 1, fits, get_or-remove_above ys i y (k - 1) (omega arith) l ∙ ap (λ j. get_or ys j y) back ∙ c.2)) o)
    (cases_order k i)

-- if each element of xs has an element of ys, and no two have the same one, ys is at least as long as xs
as_long : {X Y : Type 0} (P : X → Y → Type 0) (xs : List X) (ys : List Y)
    → AllPairs (λ a b. (y : Y) → P a y → P b y → ⊥) xs
    → ((x : X) → Contains xs x → (y : Y) × Contains ys y × P x y)
    → length xs ≤ length ys
as_long P [] ys apart has = omega arith
as_long {X} {Y} P (x ∷ xs) ys apart has =
    let R : X → X → Type 0 = λ a b. (y : Y) → P a y → P b y → ⊥ in
    let first = has x (contains_head x xs) in
    let y : Y = first.0 in
    let at : ℕ = first.1.0 in
    let l : at < length ys = first.1.1 in
    let rest : (b : X) → Contains xs b → (z : Y) × Contains (remove ys at) z × P b z =
    λ b c.
    let own = has b (contains_tail x xs b c) in
    let z : Y = own.0 in
    let differs : own.1.0 ≡ at → ⊥ = λ e.
    let same : z ≡ y = sym own.1.2 ∙ get_or_default ys own.1.0 z y own.1.1 ∙ ap (λ k. get_or ys k y) e ∙ first.1.2 in
    pairs_head R x xs apart b c y first.2 (subst (λ (v : Y). P b v) same own.2) in
    (z, contains_removed ys at z l own.1 differs, own.2) in
    let less = as_long P xs (remove ys at) (pairs_tail R x xs apart) rest in
    omega (arith, length-remove ys at l)

-- a maximal block contains one of the networks
pub holds_one : (w : ℕ) (S : ℕ → Type 0) (ms : List Network) (b : Network) → All (IsNetwork w) ms
    → ((x : ℕ) → InUnion w ms x ↔ S x) → IsMaximalIn w S b
    → (n : Network) × Contains ms n × Subnet w n b
holds_one w S ms b hm same m =
    let own : Member w b b.address = own_address w b m.network in
    let c = (same b.address).1 (m.lies b.address own) in
    let n : Network = c.0 in
    let nn : IsNetwork w n = All-contains (IsNetwork w) ms n hm c.1 in
    let sub : Subnet w n b = ⊎_elim (λ (s : Subnet w n b). s)
    (λ (s : Subnet w b n). ⊎_elim
    (λ (wide : n.prefix < b.prefix).
    let r : Subnet w n b = absurd (m.maximal n nn wide s (λ x k. (same x).0 (n, c.1, k))) in r)
    (λ (le : b.prefix ≤ n.prefix). subnet_from w n b nn le (shares_address w n b b.address le nn m.network c.2 own))
    (cases_lt n.prefix b.prefix))
    (nested w n b nn m.network (b.address, c.2, own)) in
    (n, c.1, sub)

least_is_shortest : (w : ℕ) (S : ℕ → Type 0) (r ms : List Network) → IsLeastList w S r → All (IsNetwork w) ms
    → ((x : ℕ) → InUnion w ms x ↔ S x) → length r ≤ length ms
least_is_shortest w S r ms h hm same =
    let P : Network → Network → Type 0 = λ b n. IsNetwork w n × Subnet w n b in
    as_long P r ms
    (λ i j d l m n p q.
    let a : Network = get_or r i d in
    let b : Network = get_or r j d in
    let ends = least_is_apart w S r h i j d l m in
    let mb : IsMaximalIn w S b = (h.maximal b).0 (Contains-get_or r j d m) in
    let own : Member w n n.address = own_address w n p.0 in
    let u = within_member w a n.address (p.1 n.address own) in
    let v = within_member w b n.address (q.1 n.address own) in
    omega (arith, u.1, v.0, ends, mb.block))
    (λ b c.
    let o = holds_one w S ms b hm same ((h.maximal b).0 c) in
    (o.0, o.1, (All-contains (IsNetwork w) ms o.0 hm o.1, o.2)))

-- ---- the laws

pub is_shortest : (w : ℕ) (S : ℕ → Type 0) (r : List Network) → ((x : ℕ) → S x ⊎ ¬ (S x)) → ((x : ℕ) → S x → x < 2 ^ w)
    → IsLeastList w S r → IsShortest w S r
is_shortest w S r tells fits h = record {
  addresses = has_set w S r tells fits h;
  apart = least_is_apart w S r h;
  shortest = λ ms hm same. least_is_shortest w S r ms h hm same;
  one = λ s k. least_unique w S s r k h;
}

pub range_is_shortest : RangeIsShortest
range_is_shortest w first last r fits h =
    is_shortest w (FromTo first last) r
    (λ x. ⊎_elim
    (λ (l : x < first). inr (λ p. let a = p.0 in omega arith))
    (λ (from : first ≤ x). ⊎_elim
    (λ (l : last < x). inr (λ p. let a = p.1 in omega arith))
    (λ (to : x ≤ last). inl (from, to))
    (cases_lt last x))
    (cases_lt x first))
    (λ x p. let a = p.1 in omega arith)
    h

pub member_or_not : (w : ℕ) (n : Network) (x : ℕ) → Member w n x ⊎ ¬ (Member w n x)
member_or_not w n x =
    ⊎_elim
    (λ (l : x < 2 ^ w). ⊎_elim
    (λ (e : x / block_size w n.prefix ≡ n.address / block_size w n.prefix). inl (l, e))
    (λ (other : x / block_size w n.prefix ≡ n.address / block_size w n.prefix → ⊥). inr (λ m. other m.1))
    (cases_eq (x / block_size w n.prefix) (n.address / block_size w n.prefix)))
    (λ (le : 2 ^ w ≤ x). inr (λ m. let l = m.0 in omega arith))
    (cases_lt x (2 ^ w))
