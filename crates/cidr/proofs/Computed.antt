-- The computed output is allowed, and any other allowed output has an answer `out of memory`.
use Rattle.cidr.proofs.Words.{◌≡◌, ◌≢◌, ℕ, inl, inr, List, [], ◌∷◌, ◌++◌, refl, ap, ap₂, ◌∙◌, subst, AllByRecursion, lines, Gets, RunsOut, MayGet, InTurn, MayAnswer, out_of_memory, replies, request_answer, next_routes, answers_from, FullIsComputed, ComputedIsAllowed, UnrefusedIsComputed, Request, Add, Drop, Find, Plain, request_of, Routes, no_routes, FirstInTurn, AnswerIsComputed, AnswerIsOne}
use Rattle.cidr.proofs.Found.{find_some, find_one}
use Rattle.cidr.proofs.Keys.{KeyLaws, HasClearKeys, no_keys, added_key, dropped_key}
use Rattle.cidr.proofs.Turns.{LineMayGet}

-- ---- a request

says_so : (r s : Routes) (q : Request) (x : List ℕ) → RunsOut r q x s → x ≡ out_of_memory
says_so r s (Add n v) x out = out.1
says_so r s (Drop n) x out = absurd out
says_so r s (Find a) x out = absurd out
says_so r s (Plain y) x out = absurd out

suffices : (r s : Routes) (q : Request) (x : List ℕ) → MayGet r q x s → x ≢ out_of_memory → Gets r q x s
suffices r s q x (inl gets) other = gets
suffices r s q x (inr out) other = absurd (other (says_so r s q x out))

-- the routes that a request leaves, whatever answer it gets
pub leaves : (r s : Routes) (q : Request) (x : List ℕ) → Gets r q x s → s ≡ next_routes r q
leaves r s (Add n v) x gets = gets.1
leaves r s (Drop n) x gets = gets.1
leaves r s (Find a) x gets = gets.1
leaves r s (Plain y) x gets = gets.1

-- the routes that lines leave
abbrev pub routes_after : Routes → List (List ℕ) → Routes
routes_after r [] = r
routes_after r (l ∷ ls) = routes_after (next_routes r (request_of l)) ls

-- ---- the computed output is allowed

module _ (computed : AnswerIsComputed ℕ) where
  gets_computed : (r : Routes) (q : Request) → Gets r q (request_answer r q) (next_routes r q)
  gets_computed r (Add n v) = (refl, refl)
  gets_computed r (Drop n) = (refl, refl)
  gets_computed r (Find a) = (find_some computed r a, refl)
  gets_computed r (Plain x) = (refl, refl)

  may_compute : (r : Routes) (ls : List (List ℕ)) → MayAnswer r ls (answers_from r ls) (routes_after r ls)
  may_compute r [] = refl
  may_compute r (l ∷ ls) = (
    next_routes r (request_of l),
    inl (gets_computed r (request_of l)),
    may_compute (next_routes r (request_of l)) ls,
  )

  compute : (r : Routes) (ls : List (List ℕ)) → InTurn Gets r ls (answers_from r ls) (routes_after r ls)
  compute r [] = refl
  compute r (l ∷ ls) =
      (next_routes r (request_of l), gets_computed r (request_of l), compute (next_routes r (request_of l)) ls)

  -- answers to the first lines can be extended to answers to all lines
  pub goes_on_to_all : (r : Routes) (ls xs : List (List ℕ)) → FirstInTurn LineMayGet r ls xs
      → (ys : List (List ℕ)) × (s : Routes) × MayAnswer r ls (xs ++ ys) s
  goes_on_to_all r ls [] some = (answers_from r ls, routes_after r ls, may_compute r ls)
  goes_on_to_all r [] (x ∷ xs) some = absurd some
  goes_on_to_all r (l ∷ ls) (x ∷ xs) some =
      let rest = goes_on_to_all some.0 ls xs some.2 in (rest.0, rest.1, (some.0, some.1, rest.2))

  pub computed_allowed : ComputedIsAllowed
  computed_allowed input = (
    routes_after no_routes (lines input),
    (answers_from no_routes (lines input), may_compute no_routes (lines input), refl),
  )

-- ---- keys without host bits remain so

module _ (laws : KeyLaws) where
  pub next_keys : (r : Routes) (q : Request) → HasClearKeys r → HasClearKeys (next_routes r q)
  next_keys r (Add n v) keys = added_key laws r n v keys
  next_keys r (Drop n) keys = dropped_key laws r n keys
  next_keys r (Find a) keys = keys
  next_keys r (Plain x) keys = keys

-- ---- nothing else is allowed without an answer `out of memory`

module _ (computed : AnswerIsComputed ℕ) (one : AnswerIsOne ℕ) (laws : KeyLaws) where
  one_way : (r s : Routes) (q : Request) (x : List ℕ) → HasClearKeys r → Gets r q x s
      → (x ≡ request_answer r q) × (s ≡ next_routes r q)
  one_way r s (Add n v) x keys gets = gets
  one_way r s (Drop n) x keys gets = gets
  one_way r s (Find a) x keys gets = (find_one computed one r a x keys gets.0, gets.1)
  one_way r s (Plain y) x keys gets = gets

  one_turn_each : (r s : Routes) (ls xs : List (List ℕ)) → HasClearKeys r → InTurn Gets r ls xs s
      → xs ≡ answers_from r ls
  one_turn_each r s [] [] keys turns = refl
  one_turn_each r s [] (x ∷ xs) keys turns = absurd turns
  one_turn_each r s (l ∷ ls) [] keys turns = absurd turns
  one_turn_each r s (l ∷ ls) (x ∷ xs) keys turns =
      let q = request_of l in
      let first = one_way r turns.0 q x keys turns.1 in
      let rest = subst (λ (t : Routes). InTurn Gets t ls xs s) first.1 turns.2 in
      ap₂ (λ y ys. y ∷ ys) first.0 (one_turn_each (next_routes r q) s ls xs (next_keys laws r q keys) rest)

  unrefused : (r s : Routes) (ls xs : List (List ℕ)) → HasClearKeys r → MayAnswer r ls xs s
      → AllByRecursion (λ x. x ≢ out_of_memory) xs → xs ≡ answers_from r ls
  unrefused r s [] [] keys turns others = refl
  unrefused r s [] (x ∷ xs) keys turns others = absurd turns
  unrefused r s (l ∷ ls) [] keys turns others = absurd turns
  unrefused r s (l ∷ ls) (x ∷ xs) keys turns others =
      let q = request_of l in
      let first = one_way r turns.0 q x keys (suffices r turns.0 q x turns.1 others.0) in
      let rest = subst (λ (t : Routes). MayAnswer t ls xs s) first.1 turns.2 in
      ap₂ (λ y ys. y ∷ ys) first.0 (unrefused (next_routes r q) s ls xs (next_keys laws r q keys) rest others.1)

  pub unrefused_computed : UnrefusedIsComputed
  unrefused_computed input output h = h.3
      ∙ ap replies (unrefused no_routes h.1 (lines input) h.0 (no_keys laws) h.2 h.4)

  pub full_computed : FullIsComputed
  full_computed input output = (
    λ h. h.3 ∙ ap replies (one_turn_each no_routes h.1 (lines input) h.0 (no_keys laws) h.2),
    λ is. (
      answers_from no_routes (lines input),
      routes_after no_routes (lines input),
      compute computed no_routes (lines input),
      is,
    ),
  )
