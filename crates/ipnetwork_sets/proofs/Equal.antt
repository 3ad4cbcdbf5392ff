-- Equality of lists of blocks.
use Rattle.ipnetwork_sets.proofs.Words.{◌≡◌, Bool, ◌&&◌, refl, ap, ◌∙◌, List, [], ◌∷◌, map, pointwise, Network, same_network, same_blocks}

-- if values are compared by their networks, lists of values are compared by their lists of networks
pub pointwise_pairs : {X : Type 0} (eq : X → X → Bool) (pair : X → Network)
    → ((x y : X) → eq x y ≡ same_network (pair x) (pair y)) → (xs ys : List X)
    → pointwise eq xs ys ≡ same_blocks (map pair xs) (map pair ys)
pointwise_pairs eq pair h [] [] = refl
pointwise_pairs eq pair h [] (y ∷ ys) = refl
pointwise_pairs eq pair h (x ∷ xs) [] = refl
pointwise_pairs eq pair h (x ∷ xs) (y ∷ ys) =
    ap (λ b. b && pointwise eq xs ys) (h x y)
    ∙ ap (λ b. same_network (pair x) (pair y) && b) (pointwise_pairs eq pair h xs ys)
