-- Lists of values, each seen as the network that it holds.
use Rattle.ipnetwork_blocks.proofs.Words.{◌≡◌, ◌↔◌, ℕ, ◌+◌, ◌-◌, ◌<◌, ◌≤◌, inl, inr, sym, refl, ap, subst, ◌∙◌, arith, List, [], ◌∷◌, length, get_or, map, Bool, false, IsTrue, nat_cmp, ordering_then, is_lt, MatchOrdering, Ordering, Less, Equal, Greater, All, IsSorted, ranked, get_or-map, get_or_default, length-map, Network, Subnet, IsNetworkAtMost, network_cmp, AreInOrder, LiesInLast}
use Rattle.std.proofs.Common.{true≢false}

-- an element that was read, and the network that it holds
pub read_map : {X : Type 0} (f : X → Network) (xs : List X) (i : ℕ) (x : X) → i < length xs → x ≡ get_or xs i x
    → f x ≡ get_or (map f xs) i (f x)
read_map f xs i x l is = ap f is ∙ sym (get_or-map f xs i x (f x) l)

-- a network that is the one held by the element that was read
pub read_held : {X : Type 0} (f : X → Network) (xs : List X) (i : ℕ) (x : X) (n : Network) → i < length xs
    → x ≡ get_or xs i x → n ≡ f x → n ≡ get_or (map f xs) i n
read_held f xs i x n l is e = subst (λ (m : Network). m ≡ get_or (map f xs) i m) (sym e) (read_map f xs i x l is)

at_most_from : (a b : Network) (o p : Ordering)
    → MatchOrdering o (a.address < b.address) (a.address ≡ b.address) (b.address < a.address)
    → MatchOrdering p (a.prefix < b.prefix) (a.prefix ≡ b.prefix) (b.prefix < a.prefix)
    → is_lt (ordering_then o p) ≡ false → IsNetworkAtMost b a
at_most_from a b Less p h k e = cc
at_most_from a b Equal Less h k e = cc
at_most_from a b Equal Equal h k e = inr (sym h, omega arith)
at_most_from a b Equal Greater h k e = inr (sym h, omega arith)
at_most_from a b Greater p h k e = inl h

-- a sorted list is in the order of networks
pub in_order_from_sort : {X : Type 0} (f : X → Network) (Is : X → Type 0) (R : X → X → Ordering) (xs : List X)
    → ((x y : X) → Is x → Is y → R x y ≡ network_cmp (f x) (f y)) → All Is xs → IsSorted R xs → AreInOrder (map f xs)
in_order_from_sort f Is R [] law all h k d l = absurd (omega arith)
in_order_from_sort {X} f Is R (e ∷ es) law all h k d l =
    let xs : List X = e ∷ es in
    let size = length-map xs f in
    let m : k + 1 < length xs = omega arith in
    let x : X = get_or xs k e in
    let y : X = get_or xs (k + 1) e in
    let test : is_lt (network_cmp (f y) (f x)) ≡ false =
    sym (ap is_lt (law y x (all (k + 1) e m) (all k e (omega arith)))) ∙ h k e (omega arith) m in
    let order : IsNetworkAtMost (f x) (f y) = at_most_from (f y) (f x) (nat_cmp (f y).address (f x).address)
    (nat_cmp (f y).prefix (f x).prefix)
    (ranked (f y).address (f x).address (nat_cmp (f y).address (f x).address) refl)
    (ranked (f y).prefix (f x).prefix (nat_cmp (f y).prefix (f x).prefix) refl) test in
    subst (λ (n : Network). IsNetworkAtMost n (get_or (map f xs) (k + 1) d)) (sym (get_or-map f xs k e d (omega arith)))
    (subst (λ (n : Network). IsNetworkAtMost (f x) n) (sym (get_or-map f xs (k + 1) e d m)) order)

-- whether a network lies in the last of the networks that values hold
pub lies_in_none : {X : Type 0} (f : X → Network) (w : ℕ) (xs : List X) (n : Network) → length xs ≤ 0
    → IsTrue false ↔ LiesInLast w (map f xs) n
lies_in_none f w xs n none =
    let size = length-map xs f in
    ((λ t. absurd (true≢false (sym t))), (λ l. absurd (omega (arith, l.0))))

pub lies_in_last : {X : Type 0} (f : X → Network) (w : ℕ) (xs : List X) (x : X) (n m : Network) (answer : Bool)
    → 0 < length xs → x ≡ get_or xs (length xs - 1) x → m ≡ f x
    → (IsTrue answer ↔ Subnet w n m) → IsTrue answer ↔ LiesInLast w (map f xs) n
lies_in_last f w xs x n m answer some is e test =
    let size = length-map xs f in
    let at : get_or (map f xs) (length (map f xs) - 1) n ≡ m =
    get_or_default (map f xs) (length (map f xs) - 1) n (f x) (omega arith)
    ∙ ap (λ k. get_or (map f xs) (k - 1) (f x)) size
    ∙ sym (read_map f xs (length xs - 1) x (omega arith) is) ∙ sym e in (
      (λ t. (omega arith, subst (λ (k : Network). Subnet w n k) (sym at) (test.0 t))),
      (λ l. test.1 (subst (λ (k : Network). Subnet w n k) at l.1)),
    )
