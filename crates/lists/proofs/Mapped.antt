-- The first name that documents lack, among names as the code holds them.
use Rattle.lists.proofs.Words.{◌≡◌, ◌+◌, ◌∙◌, ◌<◌, ℕ, Bool, List, [], ◌∷◌, refl, sym, ap, arith, cond, length, length-map, map, nat_lt, not, Option, None, Some, String, string_bytes, Data, position, position_or_len, prefix_len, first_lacking, have_field}

prefix_mapped : {X Y : Type 0} (f : X → Y) (test : Y → Bool) (xs : List X)
    → prefix_len test (map f xs) ≡ prefix_len (λ x. test (f x)) xs
prefix_mapped f test [] = refl
prefix_mapped f test (x ∷ xs) = ap (λ n. cond (test (f x)) (1 + n) 0) (prefix_mapped f test xs)

position_mapped : {X Y : Type 0} (f : X → Y) (test : Y → Bool) (xs : List X)
    → position test (map f xs) ≡ position (λ x. test (f x)) xs
position_mapped f test xs =
    let at = position_or_len (λ x. test (f x)) xs in
    ap (λ n. cond (nat_lt n (length (map f xs))) (Some n) None) (prefix_mapped f (λ y. not (test y)) xs)
    ∙ ap (λ n. cond (nat_lt at n) (Some at) None) (length-map xs f)

pub none_named : {Z : Type 0} (names : List (String Z)) (all : List (List ℕ)) (documents : List Data)
    → length names ≡ 0 → all ≡ map string_bytes names → Some 0 ≡ first_lacking all documents
none_named [] all documents none is = rw is refl
none_named (name ∷ names) all documents none is = absurd (omega (arith, none))

pub some_named : {Z : Type 0} (names : List (String Z)) (all : List (List ℕ)) (documents : List Data)
    (found : Option ℕ) → 0 < length names → all ≡ map string_bytes names
    → found ≡ position (λ name. not (have_field documents (string_bytes name))) names
    → found ≡ first_lacking all documents
some_named [] all documents found some is has = absurd (omega (arith, some))
some_named (name ∷ names) all documents found some is has =
    has ∙ sym (position_mapped string_bytes (λ one. not (have_field documents one)) (name ∷ names))
    ∙ ap (λ (l : List (List ℕ)). first_lacking l documents) (sym is)
