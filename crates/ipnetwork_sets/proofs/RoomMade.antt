-- Blocks written to the room made in a list.
use Rattle.ipnetwork_sets.proofs.Words.{◌≡◌, ℕ, suc, ◌+◌, ◌<◌, ◌≤◌, sym, refl, ap, ◌∙◌, arith, List, [], ◌∷◌, ◌++◌, length, set, take, drop, map, append_assoc, take_at, length-append, length-take, length-drop, length-map, length-set, take_more_set, drop-set-lt, set_split, take-map, drop-map, map-append, append-nil, take-append-drop, HasRoom}

-- one block written to room made for one
pub one_written : {X Y : Type 0} (f : X → Y) (xs made : List X) (from to : ℕ) (x : X) → from ≤ to → to ≤ length xs
    → HasRoom xs from to 1 made
    → map f (set made from x) ≡ take from (map f xs) ++ f x ∷ drop to (map f xs)
one_written f xs made from to x le fits room =
    let size = room.size in
    let next : suc from ≡ from + 1 = omega arith in
    let split : set made from x ≡ take from made ++ x ∷ drop (from + 1) made =
    set_split made from x (omega (arith, size)) ∙ ap (λ k. take from made ++ x ∷ drop k made) next in
    let parts : take from made ++ x ∷ drop (from + 1) made ≡ take from xs ++ x ∷ drop to xs =
    ap (λ t. t ++ x ∷ drop (from + 1) made) room.front ∙ ap (λ t. take from xs ++ x ∷ t) room.back in
    ap (map f) (split ∙ parts)
    ∙ map-append f (take from xs) (x ∷ drop to xs)
    ∙ ap (λ t. t ++ f x ∷ map f (drop to xs)) (sym (take-map f from xs))
    ∙ ap (λ t. take from (map f xs) ++ f x ∷ t) (sym (drop-map f to xs))

-- several blocks written to room made for as many
pub many_written : {X Y : Type 0} (f : X → Y) (xs made written : List X) (from to count : ℕ) (ys : List Y)
    → HasRoom xs from to count made → length ys ≡ count
    → map f written ≡ take from (map f made) ++ ys ++ drop (from + length ys) (map f made)
    → map f written ≡ take from (map f xs) ++ ys ++ drop to (map f xs)
many_written f xs made written from to count ys room long is =
    let front : take from (map f made) ≡ take from (map f xs) = take-map f from made ∙ ap (map f) room.front
    ∙ sym (take-map f from xs) in
    let end : from + length ys ≡ from + count = ap (λ k. from + k) long in
    let back : drop (from + length ys) (map f made) ≡ drop to (map f xs) =
    ap (λ k. drop k (map f made)) end ∙ drop-map f (from + count) made ∙ ap (map f) room.back
    ∙ sym (drop-map f to xs) in
    is ∙ ap (λ t. t ++ ys ++ drop (from + length ys) (map f made)) front
    ∙ ap (λ t. take from (map f xs) ++ ys ++ t) back

-- the list after the blocks are written
pub written_back : {X Y : Type 0} (f : X → Y) (made written : List X) (from len : ℕ) (ys : List Y) → len ≡ length made
    → from + length ys ≤ length made
    → map f written ≡ take from (map f made) ++ ys ++ drop (from + length ys) (map f made)
    → take len (written ++ drop (length written) made) ≡ written
written_back f made written from len ys all fits is =
    let parts : length (map f written) ≡ length (take from (map f made) ++ ys ++ drop (from + length ys) (map f made)) =
    ap length is in
    let size = length-map made f in
    take_at written (drop (length written) made) len
    (omega (
      arith,
      all,
      fits,
      parts,
      size,
      length-map written f,
      length-append (take from (map f made) ++ ys) (drop (from + length ys) (map f made)),
      length-append (take from (map f made)) ys,
      length-take from (map f made),
      length-drop (from + length ys) (map f made),
    ))

-- ---- the loop that writes them

-- the blocks written and those still to come are all the blocks, and the elements after them are unchanged
pub record IsWriting {X Y : Type 0} (f : X → Y) (xs : List X) (from : ℕ) (ys : List Y) (now : List X) (next : ℕ)
    (left : List Y) : Type 0 where
  pub order : from ≤ next
  pub place : next + length left ≡ from + length ys
  pub size : length now ≡ length xs
  pub front : map f (take next now) ++ left ≡ map f (take from xs) ++ ys
  pub back : drop (from + length ys) now ≡ drop (from + length ys) xs

pub writing_starts : {X Y : Type 0} (f : X → Y) (xs : List X) (from : ℕ) (ys : List Y)
    → IsWriting f xs from ys xs from ys
writing_starts f xs from ys = record { order = omega arith; place = refl; size = refl; front = refl; back = refl }

-- there is room for the next block
pub next_fits : {X Y : Type 0} (f : X → Y) (xs : List X) (from : ℕ) (ys : List Y) (now : List X) (next : ℕ)
    (left rest : List Y) (x : X) → from + length ys ≤ length xs
    → IsWriting f xs from ys now next left → left ≡ f x ∷ rest → next < length now
next_fits f xs from ys now next left rest x room h e =
    let size = h.size in
    let place = h.place in
    let long : length left ≡ length rest + 1 = ap length e ∙ (omega arith) in
    omega (arith, size, place, long, room)

pub writing_goes_on : {X Y : Type 0} (f : X → Y) (xs : List X) (from : ℕ) (ys : List Y) (now : List X) (next : ℕ)
    (left rest : List Y) (x : X) → from + length ys ≤ length xs
    → IsWriting f xs from ys now next left → left ≡ f x ∷ rest → IsWriting f xs from ys (set now next x) (next + 1) rest
writing_goes_on f xs from ys now next left rest x room h e =
    let size = h.size in
    let place = h.place in
    let order = h.order in
    let long : length left ≡ length rest + 1 = ap length e ∙ (omega arith) in
    let fits : next < length now = next_fits f xs from ys now next left rest x room h e in
    record {
      order = omega (arith, order);
      place = omega (arith, place, long);
      size = length-set now next x ∙ size;
      front =
          ap (λ t. map f t ++ rest) (take_more_set now next x fits)
          ∙ ap (λ t. t ++ rest) (map-append f (take next now) (x ∷ []))
          ∙ append_assoc (map f (take next now)) (f x ∷ []) rest
          ∙ ap (λ t. map f (take next now) ++ t) (sym e)
          ∙ h.front;
      back = drop-set-lt (from + length ys) now next x (omega (arith, place, long)) ∙ h.back;
    }

pub writing_ends : {X Y : Type 0} (f : X → Y) (xs : List X) (from : ℕ) (ys : List Y) (now : List X) (next : ℕ)
    (left : List Y) → IsWriting f xs from ys now next left → left ≡ []
    → map f now ≡ take from (map f xs) ++ ys ++ drop (from + length ys) (map f xs)
writing_ends f xs from ys now next left h none =
    let place = h.place in
    let nothing : length left ≡ 0 = ap length none in
    let end : next ≡ from + length ys = omega (arith, place, nothing) in
    let front : map f (take next now) ≡ map f (take from xs) ++ ys =
    sym (append-nil (map f (take next now))) ∙ ap (λ t. map f (take next now) ++ t) (sym none) ∙ h.front in
    let back : drop next now ≡ drop (from + length ys) xs = ap (λ k. drop k now) end ∙ h.back in
    ap (map f) (sym (take-append-drop next now))
    ∙ map-append f (take next now) (drop next now)
    ∙ ap (λ t. t ++ map f (drop next now)) front
    ∙ ap (λ t. map f (take from xs) ++ ys ++ map f t) back
    ∙ ap (λ t. t ++ ys ++ map f (drop (from + length ys) xs)) (sym (take-map f from xs))
    ∙ ap (λ t. take from (map f xs) ++ ys ++ t) (sym (drop-map f (from + length ys) xs))
