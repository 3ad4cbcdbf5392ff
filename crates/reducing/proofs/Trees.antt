-- Slices that are trees, taken apart at their root and put together again.
use Rattle.reducing.proofs.Words.{◌≡◌, ℕ, zero, suc, ◌+◌, ◌/◌, ◌<◌, ◌++◌, ◌∷◌, [], List, length, take, drop, set, get_or, Option, refl, sym, ap, subst, ◌∙◌, append_assoc, arith, length-append, take-append-le, take_all, take-append_seam, drop-append-add, get_or-append_seam, take-suc, slice_set, Network, Node, IsSpan, alone, blocks, IsRoot, IsTreeTo, IsTree}
use Rattle.reducing.proofs.ListParts.{append_nothing}

pub blocks-append : {X : Type 0} (pair : X → Network) (xs ys : List (Node X))
    → blocks pair (xs ++ ys) ≡ blocks pair xs ++ blocks pair ys
blocks-append pair [] ys = refl
blocks-append pair (n ∷ ns) ys =
    ap (λ u. alone pair n.block ++ u) (blocks-append pair ns ys)
    ∙ sym (append_assoc (alone pair n.block) (blocks pair ns) (blocks pair ys))

-- a slice with a root, and what is before and after it
pub record IsRooted {X : Type 0} (tree left : List (Node X)) (n : Node X) (right : List (Node X)) : Type 0 where
  pub tree_is : tree ≡ left ++ n ∷ right
  pub middle : length left ≡ length tree / 2

pub blocks_of_parts : {X : Type 0} (pair : X → Network) (tree left : List (Node X)) (n : Node X) (right : List (Node X))
    → IsRooted tree left n right → blocks pair tree ≡ (blocks pair left ++ alone pair n.block) ++ blocks pair right
blocks_of_parts pair tree left n right h =
    ap (blocks pair) h.tree_is ∙ blocks-append pair left (n ∷ right)
    ∙ sym (append_assoc (blocks pair left) (alone pair n.block) (blocks pair right))

before_root : {X : Type 0} (tree left : List (Node X)) (n : Node X) (right : List (Node X)) → IsRooted tree left n right
    → take (length tree / 2) tree ≡ left
before_root tree left n right h =
    subst (λ (k : ℕ). take k tree ≡ left) h.middle
    (subst (λ (t : List _). take (length left) t ≡ left) (sym h.tree_is) (take-append_seam left (n ∷ right)))

behind_root : {X : Type 0} (tree left : List (Node X)) (n : Node X) (right : List (Node X)) → IsRooted tree left n right
    → drop (suc (length tree / 2)) tree ≡ right
behind_root tree left n right h =
    let next : length left + 1 ≡ suc (length tree / 2) = omega (arith, h.middle) in
    subst (λ (k : ℕ). drop k tree ≡ right) next
    (subst (λ (t : List _). drop (length left + 1) t ≡ right) (sym h.tree_is) (drop-append-add left (n ∷ right) 1))

pub left_tree : {X : Type 0} (w : ℕ) (pair : X → Network) (tree left : List (Node X)) (n : Node X)
    (right : List (Node X))
    → IsRooted tree left n right → IsTree w pair tree → IsTree w pair left
unfolding IsTreeTo
left_tree w pair tree left n right h t =
    λ d. subst (λ (l : List _). IsTreeTo w pair d l) (before_root tree left n right h) (t (suc d)).1

pub right_tree : {X : Type 0} (w : ℕ) (pair : X → Network) (tree left : List (Node X)) (n : Node X)
    (right : List (Node X))
    → IsRooted tree left n right → IsTree w pair tree → IsTree w pair right
unfolding IsTreeTo
right_tree w pair tree left n right h t =
    λ d. subst (λ (l : List _). IsTreeTo w pair d l) (behind_root tree left n right h) (t (suc d)).2

root_of : {X : Type 0} (tree left : List (Node X)) (n m : Node X) (right : List (Node X)) → IsRooted tree left n right
    → m ≡ get_or tree (length tree / 2) m → n ≡ m
root_of tree left n m right h is =
    sym (get_or-append_seam left n right m)
    ∙ subst (λ (t : List _). get_or t (length left) m ≡ m) h.tree_is
    (subst (λ (k : ℕ). get_or tree k m ≡ m) (sym h.middle) (sym is))

made_to : {X : Type 0} (w : ℕ) (pair : X → Network) (tree left : List (Node X)) (n : Node X)
    (right : List (Node X)) (d : ℕ)
    → IsRooted tree left n right → IsTree w pair left → IsTree w pair right → IsSpan w pair (blocks pair tree) n.span
    → IsTreeTo w pair d tree
unfolding IsTreeTo
made_to w pair tree left n right zero h l r s = tt
made_to w pair tree left n right (suc d) h l r s = (
  (λ m less is. subst (λ (k : Node _). IsSpan w pair (blocks pair tree) k.span) (root_of tree left n m right h is) s),
  subst (λ (t : List _). IsTreeTo w pair d t) (sym (before_root tree left n right h)) (l d),
  subst (λ (t : List _). IsTreeTo w pair d t) (sym (behind_root tree left n right h)) (r d),
)

pub tree_made : {X : Type 0} (w : ℕ) (pair : X → Network) (tree left : List (Node X)) (n : Node X)
    (right : List (Node X))
    → IsRooted tree left n right → IsTree w pair left → IsTree w pair right
    → IsSpan w pair ((blocks pair left ++ alone pair n.block) ++ blocks pair right) n.span → IsTree w pair tree
tree_made w pair tree left n right h l r s =
    λ d. made_to w pair tree left n right d h l r
    (subst (λ (b : List Network). IsSpan w pair b n.span) (sym (blocks_of_parts pair tree left n right h)) s)

pub root_span : {X : Type 0} (w : ℕ) (pair : X → Network) (tree : List (Node X)) → IsTree w pair tree
    → IsRoot w pair tree
unfolding IsTreeTo
root_span w pair tree t = (t 1).0

empty_to : {X : Type 0} (w : ℕ) (pair : X → Network) (d : ℕ) → IsTreeTo {X = X} w pair d []
unfolding IsTreeTo
empty_to w pair zero = tt
empty_to w pair (suc d) = ((λ n less is. absurd (omega arith)), empty_to w pair d, empty_to w pair d)

pub empty_tree : {X : Type 0} (w : ℕ) (pair : X → Network) (tree : List (Node X)) → length tree ≡ 0 → IsTree w pair tree
empty_tree w pair [] e = λ d. empty_to w pair d
empty_tree w pair (n ∷ ns) e = absurd (omega arith)

-- ---- a root in a slice of its own

one_item : {A : Type 0} (xs : List A) (x : A) → length xs ≡ 1 → x ≡ get_or xs 0 x → xs ≡ x ∷ []
one_item [] x one is = absurd (omega arith)
one_item (y ∷ []) x one is = ap (λ z. z ∷ []) (sym is)
one_item (y ∷ z ∷ xs) x one is = absurd (omega arith)

one_set : {A : Type 0} (xs : List A) (x : A) → length xs ≡ 1 → set xs 0 x ≡ x ∷ []
one_set [] x one = absurd (omega arith)
one_set (y ∷ []) x one = refl
one_set (y ∷ z ∷ xs) x one = absurd (omega arith)

-- a slice that was split at its root
pub record IsSplitTree {X : Type 0} (tree left rest place right : List (Node X)) (n : Node X) : Type 0 where
  pub halves : tree ≡ left ++ rest
  pub root_first : rest ≡ place ++ right
  pub one : length place ≡ 1
  pub middle : length left ≡ length tree / 2
  pub root_is : n ≡ get_or place 0 n

pub split : {X : Type 0} (tree left rest place right : List (Node X)) (n : Node X) → tree ≡ left ++ rest
    → rest ≡ place ++ right
    → length place ≡ 1 → length left ≡ length tree / 2 → n ≡ get_or place 0 n
    → IsSplitTree tree left rest place right (get_or place 0 n)
split tree left rest place right n halves root_first one middle is = record {
  halves = halves;
  root_first = root_first;
  one = one;
  middle = middle;
  root_is = ap (λ z. get_or place 0 z) is;
}

pub opened : {X : Type 0} (tree left rest place right : List (Node X)) (n : Node X)
    → IsSplitTree tree left rest place right n
    → IsRooted tree left n right
opened tree left rest place right n s = record {
  tree_is = s.halves ∙ ap (λ r. left ++ r) (s.root_first ∙ ap (λ p. p ++ right) (one_item place n s.one s.root_is));
  middle = s.middle;
}

pub closed : {X : Type 0} (tree left rest place right : List (Node X)) (n : Node X) (left2 right2 : List (Node X))
    (m : Node X)
    → IsSplitTree tree left rest place right n → length left2 ≡ length left → length right2 ≡ length right
    → IsRooted (left2 ++ (slice_set place 0 m ++ right2)) left2 m right2
closed tree left rest place right n left2 right2 m s same_left same_right =
    let is : left2 ++ (slice_set place 0 m ++ right2) ≡ left2 ++ m ∷ right2 =
    ap (λ p. left2 ++ (p ++ right2)) (one_set place m s.one) in
    record {
      tree_is = is;
      middle =
          let old = ap length (opened tree left rest place right n s).tree_is ∙ length-append left (n ∷ right) in
          let new = ap length is ∙ length-append left2 (m ∷ right2) in
          let size : length (left2 ++ (slice_set place 0 m ++ right2)) ≡ length tree =
          omega (arith, old, new, same_left, same_right) in
          same_left ∙ s.middle ∙ ap (λ k. k / 2) (sym size);
    }

pub closed_again : {X : Type 0} (w : ℕ) (pair : X → Network) (tree left rest place right : List (Node X)) (n : Node X)
    (left2 right2 : List (Node X))
    (m : Node X) (block : Option X) → IsSplitTree tree left rest place right n → length left2 ≡ length left
    → length right2 ≡ length right
    → m.block ≡ block → IsTree w pair left2 → IsTree w pair right2
    → IsSpan w pair ((blocks pair left2 ++ alone pair block) ++ blocks pair right2) m.span
    → IsTree w pair (left2 ++ (slice_set place 0 m ++ right2))
    × (blocks pair (left2 ++ (slice_set place 0 m ++ right2)) ≡ (blocks pair left2 ++ alone pair block)
    ++ blocks pair right2)
closed_again w pair tree left rest place right n left2 right2 m block s same_left same_right is l r span =
    let rooted = closed tree left rest place right n left2 right2 m s same_left same_right in (
      tree_made w pair (left2 ++ (slice_set place 0 m ++ right2)) left2 m right2 rooted l r
          (subst (λ (o : Option _). IsSpan w pair ((blocks pair left2 ++ alone pair o) ++ blocks pair right2) m.span)
          (sym is) span),
      blocks_of_parts pair (left2 ++ (slice_set place 0 m ++ right2)) left2 m right2 rooted
          ∙ ap (λ (o : Option _). (blocks pair left2 ++ alone pair o) ++ blocks pair right2) is,
    )

pub opened_blocks : {X : Type 0} (pair : X → Network) (tree left rest place right : List (Node X)) (n : Node X)
    → IsSplitTree tree left rest place right n
    → blocks pair tree ≡ (blocks pair left ++ alone pair n.block) ++ blocks pair right
opened_blocks pair tree left rest place right n s =
    blocks_of_parts pair tree left n right (opened tree left rest place right n s)

pub opened_trees : {X : Type 0} (w : ℕ) (pair : X → Network) (tree left rest place right : List (Node X)) (n : Node X)
    → IsSplitTree tree left rest place right n → IsTree w pair tree → IsTree w pair left × IsTree w pair right
opened_trees w pair tree left rest place right n s t =
    let h = opened tree left rest place right n s in
    (left_tree w pair tree left n right h t, right_tree w pair tree left n right h t)

-- one more place
pub blocks_taken : {X : Type 0} (pair : X → Network) (tree : List (Node X)) (i : ℕ) (n : Node X) → i < length tree
    → n ≡ get_or tree i n
    → blocks pair (take (i + 1) tree) ≡ blocks pair (take i tree) ++ alone pair n.block
blocks_taken pair tree i n less is =
    let next : i + 1 ≡ suc i = omega arith in
    ap (λ k. blocks pair (take k tree)) next
    ∙ ap (blocks pair) (take-suc tree i n less ∙ ap (λ m. take i tree ++ m ∷ []) (sym is))
    ∙ blocks-append pair (take i tree) (n ∷ [])
    ∙ ap (λ u. blocks pair (take i tree) ++ u) (append_nothing (alone pair n.block))

-- a list that was written whole, as the one in its memory
pub whole_again : {A : Type 0} (len : ℕ) (new old : List A) → len ≡ length old → length new ≡ length old
    → take len (new ++ drop (length new) old) ≡ new
whole_again len new old is same =
    take-append-le len new (drop (length new) old) (omega (arith, is, same))
    ∙ take_all len new (omega (arith, is, same))
