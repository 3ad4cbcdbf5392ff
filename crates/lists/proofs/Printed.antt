-- Lists that were printed.
use Rattle.lists.proofs.Words.{◌≡◌, ⊎_elim, List, [], ◌∷◌, subst, map, Contains, contains_cons, contains_head, contains_tail, contains_nil}

pub map_contains : {X Y : Type 0} (f : X → Y) (xs : List X) (x : X) → Contains xs x → Contains (map f xs) (f x)
map_contains f [] x c = absurd (contains_nil x c)
map_contains f (y ∷ xs) x c =
    ⊎_elim
    (λ (e : y ≡ x). subst (λ z. Contains (map f (y ∷ xs)) (f z)) e (contains_head (f y) (map f xs)))
    (λ (d : Contains xs x). contains_tail (f y) (map f xs) (f x) (map_contains f xs x d))
    (contains_cons y xs x c)
