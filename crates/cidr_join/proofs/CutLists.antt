-- Lists that may have been cut, one after another.
use Rattle.cidr_join.proofs.Words.{◌≡◌, ◌∙◌, ◌+◌, ◌<◌, ◌||◌, ◌∷◌, ℕ, Bool, List, suc, sym, ap, arith, length, map, drop, drop-cons, get_or, lacks_feed, list_any, list_text, ReadList}

-- the lists from an index are cut if the one there is, or one after it
pub cut_next : (lists : List ReadList) (i : ℕ) (list : ReadList) (cut : Bool) → i < length lists
    → list ≡ get_or lists i list → lacks_feed (list_text list) ≡ cut
    → list_any lacks_feed (map list_text (drop i lists))
    ≡ (cut || list_any lacks_feed (map list_text (drop (i + 1) lists)))
cut_next lists i list cut within is same =
    let next : suc i ≡ i + 1 = omega arith in
    let any = λ (l : List ReadList). list_any lacks_feed (map list_text l) in
    ap any (drop-cons lists i list within ∙ ap (λ f. f ∷ drop (suc i) lists) (sym is)
    ∙ ap (λ n. list ∷ drop n lists) next)
    ∙ ap (λ (b : Bool). b || any (drop (i + 1) lists)) same
