-- Least lists of blocks: each set has at most one, and least lists can be put together.
use Rattle.ipnetwork_blocks.proofs.Words.{◌≡◌, ◌↔◌, ℕ, zero, suc, ◌<◌, ◌≤◌, ◌⊎◌, inl, inr, sym, refl, ap, subst, ◌∙◌, arith, ⊎_elim, List, [], ◌∷◌, ◌++◌, length, get_or, cases_lt, AllPairs, Contains, Contains-get_or, Contains-append_left, Contains-append_right, Contains-append_cases, AllPairs-cons, Network, IsNetwork, HostBitsAreZero, Member, Subnet, subnet_prefix, nested, same_block, LiesIn, IsMaximalIn, IsLeastList}

-- ---- lists

-- an element of x ∷ xs is x or an element of xs
pub contains_cons : {X : Type 0} (x : X) (xs : List X) (y : X) → Contains (x ∷ xs) y → (x ≡ y) ⊎ Contains xs y
contains_cons {X} x xs y c = go c.0 c.1 c.2
  where
    go : (k : ℕ) → k < length (x ∷ xs) → get_or (x ∷ xs) k y ≡ y → (x ≡ y) ⊎ Contains xs y
    go zero l e = inl e
    go (suc k) l e = inr (k, omega arith, e)

pub contains_head : {X : Type 0} (x : X) (xs : List X) → Contains (x ∷ xs) x
contains_head x xs = (0, omega arith, refl)

pub contains_tail : {X : Type 0} (x : X) (xs : List X) (y : X) → Contains xs y → Contains (x ∷ xs) y
contains_tail x xs y c = (suc c.0, (let l = c.1 in omega arith), c.2)

pub contains_nil : {X : Type 0} (x : X) → Contains [] x → ⊥
contains_nil x c = let l = c.1 in omega arith

pub pairs_tail : {X : Type 0} (R : X → X → Type 0) (x : X) (xs : List X) → AllPairs R (x ∷ xs) → AllPairs R xs
pairs_tail R x xs h i j d l m = h (suc i) (suc j) d (omega arith) (omega arith)

pub pairs_head : {X : Type 0} (R : X → X → Type 0) (x : X) (xs : List X) → AllPairs R (x ∷ xs) → (y : X)
    → Contains xs y → R x y
pairs_head {X} R x xs h y c =
    let l = c.1 in
    subst (λ (z : X). R x z) c.2 (h 0 (suc c.0) y (omega arith) (omega arith))

pub pairs_append : {X : Type 0} (R : X → X → Type 0) (xs ys : List X) → AllPairs R xs → AllPairs R ys
    → ((a b : X) → Contains xs a → Contains ys b → R a b) → AllPairs R (xs ++ ys)
pairs_append R [] ys h k across = k
pairs_append {X} R (x ∷ xs) ys h k across =
    AllPairs-cons R x (xs ++ ys)
    (λ i d l. ⊎_elim
    (λ (c : Contains xs (get_or (xs ++ ys) i d)). pairs_head R x xs h (get_or (xs ++ ys) i d) c)
    (λ (c : Contains ys (get_or (xs ++ ys) i d)). across x (get_or (xs ++ ys) i d) (contains_head x xs) c)
    (Contains-append_cases xs ys (get_or (xs ++ ys) i d) (Contains-get_or (xs ++ ys) i d l)))
    (pairs_append R xs ys (pairs_tail R x xs h) k (λ a b c e. across a b (contains_tail x xs a c) e))

-- if two lists ascend by a key and begin with the same element, an element of the rest of one is in the rest of the
-- other
rest_of_same : {X : Type 0} (key : X → ℕ) (x y : X) (xs ys : List X) → AllPairs (λ a b. key a < key b) (x ∷ xs) → x ≡ y
    → ((b : X) → Contains (x ∷ xs) b → Contains (y ∷ ys) b) → (b : X) → Contains xs b → Contains ys b
rest_of_same {X} key x y xs ys h first has b c =
    let R : X → X → Type 0 = λ a b. key a < key b in
    let less = pairs_head R x xs h b c in
    let key_same : key x ≡ key y = ap key first in
    ⊎_elim (λ (e : y ≡ b).
    let key_b : key y ≡ key b = ap key e in
    let r : Contains ys b = absurd (omega arith) in r)
    (λ (d : Contains ys b). d) (contains_cons y ys b (has b (contains_tail x xs b c)))

-- two lists that ascend by the same key and have the same elements are equal
ascending_unique : {X : Type 0} (key : X → ℕ) (xs ys : List X) → AllPairs (λ a b. key a < key b) xs
    → AllPairs (λ a b. key a < key b) ys
    → ((b : X) → Contains xs b ↔ Contains ys b) → xs ≡ ys
ascending_unique key [] [] h k same = refl
ascending_unique key [] (y ∷ ys) h k same = absurd (contains_nil y ((same y).1 (contains_head y ys)))
ascending_unique key (x ∷ xs) [] h k same = absurd (contains_nil x ((same x).0 (contains_head x xs)))
ascending_unique {X} key (x ∷ xs) (y ∷ ys) h k same =
    let R : X → X → Type 0 = λ a b. key a < key b in
    let first : x ≡ y = ⊎_elim (λ (e : y ≡ x). sym e)
    (λ (c : Contains ys x). ⊎_elim (λ (e : x ≡ y). e)
    (λ (d : Contains xs y).
    let less = pairs_head R x xs h y d in
    let more = pairs_head R y ys k x c in
    let r : x ≡ y = absurd (omega arith) in r)
    (contains_cons x xs y ((same y).1 (contains_head y ys))))
    (contains_cons y ys x ((same x).0 (contains_head x xs))) in
    ap (λ z. z ∷ xs) first ∙ ap (λ zs. y ∷ zs) (ascending_unique key xs ys (pairs_tail R x xs h) (pairs_tail R y ys k)
    (λ b. (
      rest_of_same key x y xs ys h first (λ a. (same a).0) b,
      rest_of_same key y x ys xs k (sym first) (λ a. (same a).1) b,
    )))

-- ---- least lists

-- a network contains its own address
pub own_address : (w : ℕ) (n : Network) → IsNetwork w n → Member w n n.address
own_address w n h = (h.address_fits, refl)

-- a block that is maximal in one set is maximal in another if it lies in that, and every network around it that lies in
-- the other set lies in the first
maximal_in : (w : ℕ) (S T : ℕ → Type 0) (b : Network) → IsMaximalIn w S b → LiesIn w T b
    → ((n : Network) → IsNetwork w n → Subnet w b n → LiesIn w T n → LiesIn w S n) → IsMaximalIn w T b
maximal_in w S T b m lies around = record {
  network = m.network;
  block = m.block;
  lies = lies;
  maximal = λ n h lt sub wide. m.maximal n h lt sub (around n h sub wide);
}

maximal_of_same : (w : ℕ) (S T : ℕ → Type 0) → ((x : ℕ) → S x ↔ T x) → (b : Network) → IsMaximalIn w S b
    → IsMaximalIn w T b
maximal_of_same w S T same b m =
    maximal_in w S T b m (λ x k. (same x).0 (m.lies x k)) (λ n h sub lies x k. (same x).1 (lies x k))

-- a least list depends only on the addresses of the set
pub least_of_same : (w : ℕ) (S T : ℕ → Type 0) (r : List Network) → ((x : ℕ) → S x ↔ T x) → IsLeastList w S r
    → IsLeastList w T r
least_of_same w S T r same h = record {
  maximal = λ b. (
    (λ c. maximal_of_same w S T same b ((h.maximal b).0 c)),
    (λ m. (h.maximal b).1 (maximal_of_same w T S (λ x. ((same x).1, (same x).0)) b m)),
  );
  ascending = h.ascending;
}

-- a set has at most one least list
pub least_unique : (w : ℕ) (S : ℕ → Type 0) (r s : List Network) → IsLeastList w S r → IsLeastList w S s → r ≡ s
least_unique w S r s h k =
    ascending_unique (λ n. n.address) r s h.ascending k.ascending
    (λ b. ((λ c. (k.maximal b).1 ((h.maximal b).0 c)), (λ c. (h.maximal b).1 ((k.maximal b).0 c))))

-- two maximal blocks that share an address are equal
pub maximal_apart : (w : ℕ) (S : ℕ → Type 0) (a b : Network) → IsMaximalIn w S a → IsMaximalIn w S b → (x : ℕ)
    → Member w a x → Member w b x → a ≡ b
maximal_apart w S a b ha hb x ma mb =
    ⊎_elim
    (λ (s : Subnet w a b). within a b ha hb s x ma mb)
    (λ (s : Subnet w b a). sym (within b a hb ha s x mb ma))
    (nested w a b ha.network hb.network (x, ma, mb))
  where
    within : (a b : Network) → IsMaximalIn w S a → IsMaximalIn w S b → Subnet w a b → (x : ℕ) → Member w a x
        → Member w b x → a ≡ b
    within a b ha hb s x ma mb =
        ⊎_elim
        (λ (wide : b.prefix < a.prefix). let r : a ≡ b = absurd (ha.maximal b hb.network wide s hb.lies) in r)
        (λ (le : a.prefix ≤ b.prefix). let ge = subnet_prefix w a b ha.network hb.network s in
        same_block w a b ha.block hb.block (omega arith) x ma mb)
        (cases_lt b.prefix a.prefix)

-- the least list of the empty set
pub least_of_none : (w : ℕ) (S : ℕ → Type 0) → ((x : ℕ) → S x → ⊥) → IsLeastList w S []
least_of_none w S none = record {
  maximal = λ b.
      ((λ c. absurd (contains_nil b c)), (λ m. absurd (none b.address (m.lies b.address (own_address w b m.network)))));
  ascending = λ i j d l m. absurd (omega arith);
}

-- the least list of the addresses of a block
pub least_of_one : (w : ℕ) (b : Network) → IsNetwork w b → HostBitsAreZero w b → IsLeastList w (Member w b) (b ∷ [])
least_of_one w b h k =
    let own : IsMaximalIn w (Member w b) b = record {
      network = h;
      block = k;
      lies = λ x m. m;
      maximal = λ n nn lt sub lies. let le = subnet_prefix w n b nn h lies in absurd (omega arith);
    } in
    record {
      maximal = λ a. (
        (λ c. ⊎_elim (λ (e : b ≡ a). subst (λ (n : Network). IsMaximalIn w (Member w b) n) e own)
            (λ (c : Contains [] a). absurd (contains_nil a c)) (contains_cons b [] a c)),
        (λ m.
            let x = own_address w a m.network in
            let e : b ≡ a = maximal_apart w (Member w b) b a own m a.address (m.lies a.address x) x in
            subst (λ (n : Network). Contains (b ∷ []) n) e (contains_head b [])),
      );
      ascending = λ i j d l m. absurd (omega arith);
    }

-- the least list of a set of two parts, one before the other, if no network in the set has addresses of both
pub least_of_two : (w : ℕ) (S P Q : ℕ → Type 0) (r s : List Network) → ((x : ℕ) → S x ↔ (P x ⊎ Q x))
    → ((x y : ℕ) → P x → Q y → x < y)
    → ((n : Network) → IsNetwork w n → LiesIn w S n → LiesIn w P n ⊎ LiesIn w Q n)
    → IsLeastList w P r → IsLeastList w Q s → IsLeastList w S (r ++ s)
least_of_two w S P Q r s parts before one h k =
    record {
      maximal = λ b. (
        (λ c. ⊎_elim
            (λ (c : Contains r b). lower b ((h.maximal b).0 c))
            (λ (c : Contains s b). upper b ((k.maximal b).0 c))
            (Contains-append_cases r s b c)),
        (λ (m : IsMaximalIn w S b). ⊎_elim
            (λ (lies : LiesIn w P b). Contains-append_left r s b
            ((h.maximal b).1 (maximal_in w S P b m lies (λ n nn sub wide x l. (parts x).1 (inl (wide x l))))))
            (λ (lies : LiesIn w Q b). Contains-append_right r s b
            ((k.maximal b).1 (maximal_in w S Q b m lies (λ n nn sub wide x l. (parts x).1 (inr (wide x l))))))
            (one b m.network m.lies)),
      );
      ascending = pairs_append (λ a b. a.address < b.address) r s h.ascending k.ascending
          (λ a b c d.
          let ma = (h.maximal a).0 c in
          let mb = (k.maximal b).0 d in
          before a.address b.address (ma.lies a.address (own_address w a ma.network))
          (mb.lies b.address (own_address w b mb.network)));
    }
  where
    lower : (b : Network) → IsMaximalIn w P b → IsMaximalIn w S b
    lower b m = maximal_in w P S b m (λ x l. (parts x).1 (inl (m.lies x l))) (λ n nn sub lies. ⊎_elim
        (λ (wide : LiesIn w P n). wide)
        (λ (wide : LiesIn w Q n).
        let x = own_address w b m.network in
        let less = before b.address b.address (m.lies b.address x) (wide b.address (sub b.address x)) in
        let r : LiesIn w P n = absurd (omega arith) in r)
        (one n nn lies))

    upper : (b : Network) → IsMaximalIn w Q b → IsMaximalIn w S b
    upper b m = maximal_in w Q S b m (λ x l. (parts x).1 (inr (m.lies x l))) (λ n nn sub lies. ⊎_elim
        (λ (wide : LiesIn w P n).
        let x = own_address w b m.network in
        let less = before b.address b.address (wide b.address (sub b.address x)) (m.lies b.address x) in
        let r : LiesIn w Q n = absurd (omega arith) in r)
        (λ (wide : LiesIn w Q n). wide)
        (one n nn lies))
