-- The lines of a set determine its blocks: no canonical text has the byte that ends a line, and each text is that of
-- only one network.
use Rattle.ipnetwork_sets.proofs.Words.{◌≡◌, ℕ, sym, ap, ◌∙◌, List, [], ◌∷◌, ◌++◌, length, get_or, take, ◌+◌, ◌<◌, flat_map_more, take_more, flat_map, Network, lines_of}

-- one more line
pub next_line : (text : Network → List ℕ) (bs : List Network) (i : ℕ) (b : Network) → i < length bs → b ≡ get_or bs i b
    → lines_of text (take i bs) ++ (text b ++ 10 ∷ []) ≡ lines_of text (take (i + 1) bs)
next_line text bs i b l is =
    let line : Network → List ℕ = λ n. text n ++ 10 ∷ [] in
    flat_map_more line [] (take i bs) b
    ∙ ap (flat_map line) (ap (λ n. take i bs ++ n ∷ []) is ∙ sym (take_more bs i b l))
