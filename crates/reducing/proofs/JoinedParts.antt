-- Joins in lists that are the blocks of a tree: those on the left, the one at the root and those on the right.
use Rattle.reducing.proofs.Words.{◌≡◌, ℕ, ◌<◌, ◌⊎◌, ◌++◌, ◌∷◌, [], List, refl, sym, ap, subst, ◌∙◌, append_assoc, arith, ⊎_elim, Option, Some, None, Network, joined, others, no_pair, least, DoMeet, IsBetween, JoinsFirst, alone, IsTaken, First, Last}
use Rattle.reducing.proofs.ListParts.{append_nothing, not_nothing, least_around, least_of_both, join_in_front, join_between}

-- ---- the pair between the left part and the root

lastly : Network → List Network → Network
lastly d [] = d
lastly d (x ∷ xs) = lastly x xs

lastly-push : (d : Network) (xs : List Network) (a : Network) → lastly d (xs ++ a ∷ []) ≡ a
unfolding lastly
lastly-push d [] a = refl
lastly-push d (x ∷ xs) a = lastly-push x xs a

last_is_one : (xs ys : List Network) (a b : Network) → xs ++ a ∷ [] ≡ ys ++ b ∷ [] → a ≡ b
last_is_one xs ys a b e = sym (lastly-push a xs a) ∙ ap (lastly a) e ∙ lastly-push a ys b

abbrev pub AreJoinedTo : {X : Type 0} → ℕ → (X → Network) → Option X → Option X → Option X → Type 0
AreJoinedTo w pair first second both = (a b : Network) → alone pair first ≡ a ∷ [] → alone pair second ≡ b ∷ []
    → alone pair both ≡ joined w a b ∷ []

-- the least in front of the end is the whole list's, or that of the pair at the end
pair_at_end : (w k : ℕ) (list rest : List Network) (a b : Network) → list ≡ rest ++ a ∷ []
    → k ≡ least w (list ++ b ∷ [])
    → (k ≡ least w list → ⊥) → k < no_pair → (k ≡ others w a b) × (k < least w list)
pair_at_end w k list rest a b is all other some =
    let split : list ++ b ∷ [] ≡ rest ++ a ∷ b ∷ [] = ap (λ u. u ++ b ∷ []) is ∙ append_assoc rest (a ∷ []) (b ∷ []) in
    let at = ap (least w) split in
    let front = ap (least w) is in
    let around = least_around w rest a b [] in
    (omega (arith, all, at, front, around, other, some), omega (arith, all, at, front, around, other, some))

pub join_at_root : {X : Type 0} (w k : ℕ) (pair : X → Network) (left rest right : List Network)
    (last block both : Option X) → IsTaken pair Last left rest last
    → AreJoinedTo w pair last block both → k ≡ least w (left ++ alone pair block) → (k ≡ least w left → ⊥) → k < no_pair
    → JoinsFirst w ((left ++ alone pair block) ++ right) ((rest ++ alone pair both) ++ right) k
join_at_root w k pair left rest right last None both end makes all other some =
    absurd (other (all ∙ ap (least w) (append_nothing left)))
join_at_root w k pair left rest right None (Some x) both end makes all other some =
    let one = ap (λ u. least w (u ++ pair x ∷ [])) end.0 in absurd (omega (arith, all, one, some))
join_at_root w k pair left rest right (Some a) (Some x) both end makes all other some =
    let at = pair_at_end w k left rest (pair a) (pair x) end all other some in
    let join = join_between w rest [] (pair a) (pair x) k left (pair x ∷ []) end refl at.0 at.1 in
    join_in_front w (left ++ pair x ∷ []) (rest ++ alone pair both) right k
    (subst (λ (u : List Network). JoinsFirst w (left ++ pair x ∷ []) (rest ++ u) k)
    (sym (makes (pair a) (pair x) refl refl)) join)

-- ---- the pair between the root and the right part

meets : (w k : ℕ) (front right : List Network) → IsBetween w front right k → k < no_pair → DoMeet w front right k
meets w k front right h some =
    let Goal : Type 0 = DoMeet w front right k in
    ⊎_elim (λ (m : DoMeet w front right k). m)
    (λ (n : (k ≡ no_pair) × ((front ≡ []) ⊎ (right ≡ []))). let r : Goal = absurd (omega (arith, n.0, some)) in r) h

pub join_behind_root : {X : Type 0} (w k : ℕ) (pair : X → Network) (front right rest rest_right : List Network)
    (last first both : Option X)
    → IsTaken pair Last front rest last → IsTaken pair First right rest_right first → AreJoinedTo w pair last first both
    → IsBetween w front right k → k < no_pair
    → k < least w front → JoinsFirst w (front ++ right) ((rest ++ alone pair both) ++ rest_right) k
join_behind_root w k pair front right rest rest_right None first both end begin makes between some more =
    let m = meets w k front right between some in absurd (not_nothing m.before m.a [] (sym m.ends ∙ end.0))
join_behind_root w k pair front right rest rest_right (Some a) None both end begin makes between some more =
    let m = meets w k front right between some in absurd (not_nothing [] m.b m.behind (sym m.begins ∙ begin.0))
join_behind_root w k pair front right rest rest_right (Some a) (Some b) both end begin makes between some more =
    let m = meets w k front right between some in
    let same_a : m.a ≡ pair a = last_is_one m.before rest m.a (pair a) (sym m.ends ∙ end) in
    let begins : m.b ∷ m.behind ≡ pair b ∷ rest_right = sym m.begins ∙ begin in
    let same_b : m.b ≡ pair b = cc in
    let is : k ≡ others w (pair a) (pair b) =
    m.others_are ∙ ap (λ n. others w n m.b) same_a ∙ ap (λ n. others w (pair a) n) same_b in
    let whole : (rest ++ alone pair both) ++ rest_right ≡ rest ++ joined w (pair a) (pair b) ∷ rest_right =
    ap (λ u. (rest ++ u) ++ rest_right) (makes (pair a) (pair b) refl refl)
    ∙ append_assoc rest (joined w (pair a) (pair b) ∷ []) rest_right in
    subst (λ (u : List Network). JoinsFirst w (front ++ right) u k) (sym whole)
    (join_between w rest rest_right (pair a) (pair b) k front right end begin is more)

-- ---- where the least is

pub least_is_behind : (w k n : ℕ) (front right : List Network) → k ≡ least w (front ++ right)
    → IsBetween w front right n
    → (k ≡ least w front → ⊥) → (k ≡ n → ⊥) → (k ≡ least w right) × (k < n) × (k < least w front)
least_is_behind w k n front right all between other_front other =
    let both = least_of_both w front right n between in (
      omega (arith, all, both, other_front, other),
      omega (arith, all, both, other_front, other),
      omega (arith, all, both, other_front, other),
    )

pub least_is_less : (w k n : ℕ) (front right : List Network) → k ≡ least w (front ++ right) → IsBetween w front right n
    → (k ≡ least w front → ⊥) → k < least w front
least_is_less w k n front right all between other =
    let both = least_of_both w front right n between in omega (arith, all, both, other)
