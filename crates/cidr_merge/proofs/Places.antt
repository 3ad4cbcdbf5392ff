-- Lists up to a place, and with one more item.
use Rattle.cidr_merge.proofs.Words.{◌≡◌, ◌+◌, ◌<◌, ◌∙◌, ℕ, List, [], ◌∷◌, ◌++◌, refl, sym, ap, length, take, drop, get_or, append_assoc, String, string_bytes, drop-map, take_more, take-append-drop, files_among, Task}
use Rattle.std.specs.Prelude.{map}
use Rattle.cidr_merge.specs.declared.tasks.Task.TheVariants as tasks

-- the items before a place, then the item at it, are those before the next place
pub up_to_next : {X : Type 0} (xs : List X) (place : ℕ) (x : X) → place < length xs
    → x ≡ get_or xs place x → take (place + 1) xs ≡ take place xs ++ x ∷ []
up_to_next xs place x l is = take_more xs place x l ∙ ap (λ y. take place xs ++ y ∷ []) (sym is)

-- followed by the items after it, they are the whole list
pub cut_at : {X : Type 0} (xs : List X) (place : ℕ) (x : X) → place < length xs
    → x ≡ get_or xs place x → xs ≡ take place xs ++ x ∷ drop (place + 1) xs
cut_at xs place x l is =
    sym (take-append-drop (place + 1) xs)
    ∙ ap (λ ys. ys ++ drop (place + 1) xs) (up_to_next xs place x l is)
    ∙ append_assoc (take place xs) (x ∷ []) (drop (place + 1) xs)

-- the names of lists among names, as bytes
pub named_among : {Z : Type 0} (task : Task) (middle : ℕ) (names : List (String Z))
    → map string_bytes (files_among task middle names) ≡ files_among task middle (map string_bytes names)
named_among (tasks.Merge operation) middle names = refl
named_among tasks.List middle names = refl
named_among tasks.Split middle names = refl
named_among tasks.Reduce middle names = refl
named_among tasks.Check middle names = refl
named_among tasks.Overlaps middle names = refl
named_among tasks.Find middle names = sym (drop-map string_bytes middle names)
named_among tasks.Free middle names = refl
