-- A text and a zero byte at the front of a buffer.
use Rattle.ipnetwork_c.proofs.Words.{◌≡◌, ℕ, ◌+◌, ◌<◌, List, ◌∷◌, ◌++◌, length, drop, slice_set, ap, sym, add-one, ◌∙◌, drop-cons, set-append_seam}

pub zero_behind : (text before : List ℕ) → length text < length before
    → slice_set (text ++ drop (length text) before) (length text) 0 ≡ text ++ 0 ∷ drop (length text + 1) before
zero_behind text before room =
    ap (λ rest. slice_set (text ++ rest) (length text) 0) (drop-cons before (length text) 0 room)
    ∙ set-append_seam text _ _ 0
    ∙ ap (λ k. text ++ 0 ∷ drop k before) (sym (add-one (length text)))
