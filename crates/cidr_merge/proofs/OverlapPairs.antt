-- The pairs of entries that overlap, entry by entry.
use Rattle.cidr_merge.proofs.Words.{◌≡◌, ◌==◌, ◌+◌, ◌||◌, ◌<◌, ◌∙◌, ℕ, Bool, true, false, not, List, [], ◌∷◌, ◌++◌, refl, sym, ap, subst, arith, cond, length, map, take, get_or, filter, append_assoc, append-nil, String, concat, SwappedAt, IsSorted, concat-append, take_more, map_push, length-map, get_or_default, Written, Reports, tells_more, tells_same, Listed, reaches, pair_text, pairs_with, pairs_after, listed_cmp, listed_as, overlaps, KeepsReaching, TellsFound, Placed}
use Rattle.cidr_merge.proofs.Places.{up_to_next}
use Rattle.cidr_merge.proofs.Found.{tells_both}
use Rattle.cidr_merge.proofs.KeptEntries.{Swept, swept_more, as_it_was, same_further}
use Rattle.cidr_merge.proofs.ListedOrder.{overlaps_falls}

-- the findings with one more entry
pub pairs_more : {Z : Type 0} (names : List (String Z)) (before entries : List Listed)
    (entry : Listed)
    → pairs_after names before (entries ++ entry ∷ []) ≡ pairs_after names before entries
    ++ pairs_with names (before ++ entries) entry
pairs_more names before [] entry =
    append-nil (pairs_with names before entry) ∙ ap (λ b. pairs_with names b entry)
    (sym (append-nil before))
pairs_more names before (next ∷ entries) entry =
    ap (λ l. pairs_with names before next ++ l) (pairs_more names
    (before ++ next ∷ []) entries entry)
    ∙ sym (append_assoc (pairs_with names before next) (pairs_after names
    (before ++ next ∷ []) entries) (pairs_with names ((before ++ next ∷ []) ++ entries) entry))
    ∙ ap (λ b. (pairs_with names before next ++ pairs_after names (before ++ next ∷ []) entries)
    ++ pairs_with names b entry) (append_assoc before (next ∷ []) entries)

filter_map_is : {X Y : Type 0} (f : X → Y) (p : Y → Bool) (xs : List X)
    → filter p (map f xs) ≡ map f (filter (λ x. p (f x)) xs)
filter_map_is f p [] = refl
filter_map_is f p (x ∷ xs) = by (filter_map_is f p xs) (p (f x)) refl where
  by : filter p (map f xs) ≡ map f (filter (λ y. p (f y)) xs) → (b : Bool) → p (f x) ≡ b
      → filter p (map f (x ∷ xs)) ≡ map f (filter (λ y. p (f y)) (x ∷ xs))
  by k true e =
      ap (λ c. cond c (f x ∷ filter p (map f xs)) (filter p (map f xs))) e ∙ ap (λ l. f x ∷ l) k
      ∙ sym (ap (λ c. map f (cond c (x ∷ filter (λ y. p (f y)) xs) (filter (λ y. p (f y)) xs))) e)
  by k false e = ap (λ c. cond c (f x ∷ filter p (map f xs)) (filter p (map f xs))) e ∙ k
      ∙ sym (ap (λ c. map f (cond c (x ∷ filter (λ y. p (f y)) xs) (filter (λ y. p (f y)) xs))) e)

-- the finding with one more earlier entry was printed
pairs_with_more : {Z W : Type 0} (names : List (String Z)) (later : Placed) (before : List Placed)
    (index : ℕ) (one : Placed) (old mid new : Written W) → index < length before
    → one ≡ get_or before index one
    → Reports old mid (concat (map (pair_text names (listed_as later))
    (map listed_as (take index before)))) → Reports mid new
    (pair_text names (listed_as later) (listed_as one))
    → Reports old new (concat (map (pair_text names (listed_as later))
    (map listed_as (take (index + 1) before))))
pairs_with_more names later before index one old mid new l is h k =
    let text = pair_text names (listed_as later) in
    let done = map listed_as (take index before) in
    tells_same old new (concat (map text done ++ text (listed_as one) ∷ []))
    (concat (map text (map listed_as (take (index + 1) before))))
    (ap concat (sym (map_push text done (listed_as one))
    ∙ ap (map text) (sym (map_push listed_as (take index before) one)
    ∙ ap (map listed_as) (sym (up_to_next before index one l is)))))
    (subst (λ (t : List ℕ). Reports old new t) (sym (concat-append (map text done) (text (listed_as one) ∷ [])))
    (tells_more old mid new (concat (map text done)) (concat (text (listed_as one) ∷ [])) h
    (tells_same mid new (text (listed_as one)) (concat (text (listed_as one) ∷ []))
    (sym (append-nil (text (listed_as one)))) k)))

pub pairs_with_next : {Z W : Type 0} (names : List (String Z)) (later : Placed)
    (before : List Placed) (index : ℕ) (other : Placed) (old mid new : Written W)
    → index < length before
    → Reports old mid (concat (map (pair_text names (listed_as later))
    (map listed_as (take index before)))) → Reports mid new
    (pair_text names (listed_as later) (listed_as (get_or before index other)))
    → Reports old new (concat (map (pair_text names (listed_as later))
    (map listed_as (take (index + 1) before))))
pairs_with_next names later before index other old mid new l h k =
    pairs_with_more names later before index (get_or before index other) old mid new l
    (get_or_default before index other (get_or before index other) l) h k

-- the pairs of the entries before a place were printed
abbrev pub PairsTold : {Z W : Type 0} → List (String Z) → List Placed → Written W → Written W → Bool
    → Type 0
PairsTold names entries old new found =
    TellsFound (pairs_after names [] (map listed_as entries)) old new found

pub pairs_told_more : {Z W : Type 0} (names : List (String Z))
    (entries now mid kept_ones : List Placed) (kept place count : ℕ) (later : Placed)
    (old between new : Written W) (found more both : Bool)
    → place < length entries → Swept overlaps entries now kept place
    → later ≡ get_or entries place later → kept_ones ≡ filter (overlaps later) (take kept now)
    → PairsTold names (take place entries) old between found
    → Reports between new (concat (map (pair_text names (listed_as later)) (map listed_as kept_ones)))
    → more ≡ not (length kept_ones == 0) → both ≡ (found || more)
    → PairsTold names (take (place + 1) entries) old new both
pairs_told_more names entries now mid kept_ones kept place count later old between new found more
    both l swept is front h told m b =
    let texts = map (pair_text names (listed_as later)) (map listed_as kept_ones) in
    let all : kept_ones ≡ filter (overlaps later) (take place entries) =
    front ∙ subst (λ y. filter (overlaps y) (take kept now) ≡ filter (overlaps y)
    (take place entries)) (sym is) (swept.same place later (omega arith) l) in
    let pairs : texts ≡ pairs_with names (map listed_as (take place entries)) (listed_as later) =
    ap (λ es. map (pair_text names (listed_as later)) es)
    (ap (map listed_as) all ∙ sym (filter_map_is listed_as (reaches (listed_as later))
    (take place entries))) in
    let some : more ≡ not (length texts == 0) =
    m ∙ ap (λ n. not (n == 0)) (sym (length-map (map listed_as kept_ones)
    (pair_text names (listed_as later)) ∙ length-map kept_ones listed_as)) in
    subst (λ found. TellsFound found old new both)
    (ap (λ l. pairs_after names [] (map listed_as (take place entries)) ++ l) pairs
    ∙ sym (pairs_more names [] (map listed_as (take place entries)) (listed_as later))
    ∙ ap (pairs_after names []) (sym (map_push listed_as (take place entries) later)
    ∙ ap (map listed_as) (ap (λ y. take place entries ++ y ∷ []) is
    ∙ sym (take_more entries place later l))))
    (tells_both (pairs_after names [] (map listed_as (take place entries))) texts old between new
    found more both h (told, some) b)

-- one more entry was swept, and printed with those that it overlaps
pairs_step : {Z W : Type 0} (names : List (String Z)) (old now mid new : List Placed)
    (kept place count : ℕ) (later : Placed) (output between after : Written W)
    (found more both : Bool)
    → IsSorted listed_cmp (map listed_as old) → Swept overlaps old now kept place
    → PairsTold names (take place old) output between found → place < length old
    → KeepsReaching now mid kept place count
    → later ≡ get_or mid place later → SwappedAt mid new count place → length new ≡ length mid
    → Reports between after (concat (map (pair_text names (listed_as later))
    (map listed_as (take count mid)))) → more ≡ not (length (take count mid) == 0)
    → both ≡ (found || more)
    → Swept overlaps old new (count + 1) (place + 1) × PairsTold names
    (take (place + 1) old) output after both
pairs_step names old now mid new kept place count later output between after found more both sorted
    swept told l keeps is swapped len tells m b =
    let ahead = same_further mid now kept place swept.within keeps.ahead in
    let now_is : later ≡ get_or now place later =
    is ∙ as_it_was now mid place place later ahead (omega arith) in
    let old_is : later ≡ get_or old place later =
    now_is ∙ as_it_was old now place place later swept.ahead (omega arith) in
    let front = keeps.front later now_is in (
      swept_more overlaps old now mid new kept place count later
          (overlaps_falls old sorted) swept l is front ahead keeps.long keeps.fewer swapped len,
      pairs_told_more names old now mid (take count mid) kept place count later output between after
          found more both l swept old_is front told tells m b,
    )

pub pairs_next : {Z W : Type 0} (names : List (String Z)) (old now mid new : List Placed)
    (kept place count : ℕ) (other : Placed) (output between after : Written W)
    (found more both : Bool)
    → IsSorted listed_cmp (map listed_as old) → Swept overlaps old now kept place
    → PairsTold names (take place old) output between found → place < length old
    → KeepsReaching now mid kept place count
    → SwappedAt mid new count place → length new ≡ length mid
    → Reports between after (concat (map (pair_text names (listed_as (get_or mid place other)))
    (map listed_as (take count mid)))) → more ≡ not (length (take count mid) == 0)
    → both ≡ (found || more)
    → Swept overlaps old new (count + 1) (place + 1) × PairsTold names
    (take (place + 1) old) output after both
pairs_next names old now mid new kept place count other output between after found more both sorted
    swept told l keeps swapped len tells m b =
    let within : place < length mid = omega (arith, l, keeps.long, swept.long) in
    pairs_step names old now mid new kept place count
    (get_or mid place other) output between after found more both sorted swept told l keeps
    (get_or_default mid place other (get_or mid place other) within) swapped len tells m b
