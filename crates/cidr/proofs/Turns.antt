-- Answers to lines, in turn.
use Rattle.cidr.proofs.Words.{◌≡◌, ℕ, List, [], ◌∷◌, ◌++◌, subst, flat_map-append, MayGet, MayAnswer, reply, replies, request_of, Routes, FirstInTurn}
use Rattle.cidr.specs.Turns.{InTurn}

module _ {S Q A : Type 0} (Gets : S → Q → A → S → Type 0) where
  -- the first questions, followed by the others
  pub turns-append : (r s t : S) (ls ms : List Q) (xs ys : List A) → InTurn Gets r ls xs s → InTurn Gets s ms ys t
      → InTurn Gets r (ls ++ ms) (xs ++ ys) t
  turns-append r s t [] ms [] ys these those = subst (λ (q : S). InTurn Gets q ms ys t) these those
  turns-append r s t [] ms (x ∷ xs) ys these those = absurd these
  turns-append r s t (l ∷ ls) ms [] ys these those = absurd these
  turns-append r s t (l ∷ ls) ms (x ∷ xs) ys these those =
      (these.0, these.1, turns-append these.0 s t ls ms xs ys these.2 those)

  -- answers to all questions include answers to the first
  pub first_of_all : (r s : S) (ls : List Q) (xs : List A) → InTurn Gets r ls xs s → FirstInTurn Gets r ls xs
  first_of_all r s [] [] all = tt
  first_of_all r s [] (x ∷ xs) all = absurd all
  first_of_all r s (l ∷ ls) [] all = tt
  first_of_all r s (l ∷ ls) (x ∷ xs) all = (all.0, all.1, first_of_all all.0 s ls xs all.2)

  pub first_of_more : (r : S) (ls ms : List Q) (xs : List A) → FirstInTurn Gets r ls xs
      → FirstInTurn Gets r (ls ++ ms) xs
  first_of_more r [] ms [] some = tt
  first_of_more r [] ms (x ∷ xs) some = absurd some
  first_of_more r (l ∷ ls) ms [] some = tt
  first_of_more r (l ∷ ls) ms (x ∷ xs) some = (some.0, some.1, first_of_more some.0 ls ms xs some.2)

  -- all of the first questions, followed by some of the others
  pub first-append : (r s : S) (ls ms : List Q) (xs ys : List A) → InTurn Gets r ls xs s → FirstInTurn Gets s ms ys
      → FirstInTurn Gets r (ls ++ ms) (xs ++ ys)
  first-append r s [] ms [] ys these some = subst (λ (q : S). FirstInTurn Gets q ms ys) these some
  first-append r s [] ms (x ∷ xs) ys these some = absurd these
  first-append r s (l ∷ ls) ms [] ys these some = absurd these
  first-append r s (l ∷ ls) ms (x ∷ xs) ys these some =
      (these.0, these.1, first-append these.0 s ls ms xs ys these.2 some)

-- the answers that a line may get, and the routes that it then leaves
abbrev pub LineMayGet : Routes → List ℕ → List ℕ → Routes → Type 0
LineMayGet before line answer after = MayGet before (request_of line) answer after

pub replies-append : (xs ys : List (List ℕ)) → replies (xs ++ ys) ≡ replies xs ++ replies ys
replies-append xs ys = flat_map-append reply xs ys

-- the first lines, followed by the others
pub answers-append : (r s t : Routes) (ls ms xs ys : List (List ℕ)) → MayAnswer r ls xs s → MayAnswer s ms ys t
    → MayAnswer r (ls ++ ms) (xs ++ ys) t
answers-append r s t ls ms xs ys these those = turns-append LineMayGet r s t ls ms xs ys these those
