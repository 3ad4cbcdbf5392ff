-- Numbers represented by the part that they lie in and by their last 16 bits.
use Rattle.ipnetwork_index.proofs.Words.{◌≡◌, ℕ, ◌+◌, ◌-◌, ◌/◌, ◌%◌, ◌^◌, ◌<◌, ◌≤◌, ◌∙◌, List, [], ◌∷◌, ◌++◌, length, get_or, map, take, arith, sym, ap, subst, ⊎_elim, cases_lt, get_or_read, map-append, take_more, pow-add, div-div-eq-div-mul, mod-eq_of_lt, pow_mono, shr_mono, AreLowHalvesOf, AreRising, IsFirstFrom, IsFirstOf, IsRunOfLess, LiesAt}

-- ---- numbers of one part

-- a number of an earlier part is less
less_by_part : (a x shift part : ℕ) → a / 2 ^ shift < part → part ≤ x / 2 ^ shift → a < x
less_by_part a x shift part before from = ⊎_elim
    (λ (less : a < x). less)
    (λ (least : x ≤ a).
    let l : x / 2 ^ shift ≤ a / 2 ^ shift = shr_mono shift least in
    absurd (omega arith))
    (cases_lt a x)

part_of_part : (a shift : ℕ) → shift ≤ 16 → a / 2 ^ shift / 2 ^ (16 - shift) ≡ a / 65536
part_of_part a shift narrow =
    let all : shift + (16 - shift) ≡ 16 = omega arith in
    div-div-eq-div-mul a (2 ^ shift) (2 ^ (16 - shift))
    ∙ ap (λ (n : ℕ). a / n) (sym (pow-add 2 shift (16 - shift)) ∙ ap (λ (n : ℕ). 2 ^ n) all)

-- the numbers of a part agree in all but their last 16 bits
same_rest : (a x shift : ℕ) → shift ≤ 16 → a / 2 ^ shift ≡ x / 2 ^ shift → a / 65536 ≡ x / 65536
same_rest a x shift narrow same =
    sym (part_of_part a shift narrow) ∙ ap (λ (n : ℕ). n / 2 ^ (16 - shift)) same
    ∙ part_of_part x shift narrow

less_by_low : (a x : ℕ) → a / 65536 ≡ x / 65536 → a % 65536 < x % 65536 → a < x
less_by_low a x same less = omega arith

least_by_low : (a x : ℕ) → a / 65536 ≡ x / 65536 → x % 65536 ≤ a % 65536 → x ≤ a
least_by_low a x same least = omega arith

low_by_least : (a x : ℕ) → a / 65536 ≡ x / 65536 → a ≤ x → a % 65536 ≤ x % 65536
low_by_least a x same least = omega arith

-- ---- the search in the part of a number

module _ (w : ℕ) (lows starts : List ℕ) (shift : ℕ) (words numbers : List ℕ)
    (h : AreLowHalvesOf w lows starts shift words numbers) (x : ℕ) (short : x < 2 ^ 32) where
  next_part : x / 2 ^ shift + 1 < length starts
  next_part = h.known.reach x short

  own_start : IsFirstOf numbers shift (x / 2 ^ shift) (get_or starts (x / 2 ^ shift) 0)
  own_start =
      let next : x / 2 ^ shift + 1 < length starts = next_part in
      h.known.firsts (x / 2 ^ shift) (omega arith)

  next_start : IsFirstOf numbers shift (x / 2 ^ shift + 1) (get_or starts (x / 2 ^ shift + 1) 0)
  next_start = h.known.firsts (x / 2 ^ shift + 1) next_part

  -- the start of the part and that of the next one, as they are read
  pub starts_read : (start end : ℕ) → start ≡ get_or starts (x / 2 ^ shift) start
      → end ≡ get_or starts (x / 2 ^ shift + 1) end
      → (start ≡ get_or starts (x / 2 ^ shift) 0) × (end ≡ get_or starts (x / 2 ^ shift + 1) 0)
  starts_read start end is_start is_end = (
    get_or_read starts (x / 2 ^ shift) start (omega (arith, next_part)) is_start 0,
    get_or_read starts (x / 2 ^ shift + 1) end next_part is_end 0,
  )

  pub room : get_or starts (x / 2 ^ shift) 0 + 8 ≤ length lows
  room =
      let within = own_start.within in
      let size = h.known.lows_are.room in omega arith

  pub ordered : get_or starts (x / 2 ^ shift) 0 ≤ get_or starts (x / 2 ^ shift + 1) 0
  ordered =
      let start : ℕ = get_or starts (x / 2 ^ shift) 0 in
      let end : ℕ = get_or starts (x / 2 ^ shift + 1) 0 in
      let within = own_start.within in
      ⊎_elim
      (λ (less : end < start).
      let early : get_or numbers end 0 / 2 ^ shift < x / 2 ^ shift = own_start.before end less in
      let late : x / 2 ^ shift + 1 ≤ get_or numbers end 0 / 2 ^ shift
      = next_start.from end (omega arith) (omega arith) in absurd (omega arith))
      (λ (ok : start ≤ end). ok)
      (cases_lt end start)

  -- the numbers between the start of a part and that of the next one lie in the part
  own_part : (k : ℕ) → get_or starts (x / 2 ^ shift) 0 ≤ k
      → k < get_or starts (x / 2 ^ shift + 1) 0
      → get_or numbers k 0 / 2 ^ shift ≡ x / 2 ^ shift
  own_part k from to =
      let within = next_start.within in
      let least : x / 2 ^ shift ≤ get_or numbers k 0 / 2 ^ shift = own_start.from k from (omega arith) in
      let less : get_or numbers k 0 / 2 ^ shift < x / 2 ^ shift + 1 = next_start.before k to in
      omega arith

  own_rest : (k : ℕ) → get_or starts (x / 2 ^ shift) 0 ≤ k
      → k < get_or starts (x / 2 ^ shift + 1) 0 → get_or numbers k 0 / 65536 ≡ x / 65536
  own_rest k from to =
      same_rest (get_or numbers k 0) x shift h.known.narrow (own_part k from to)

  own_low : (k : ℕ) → k < get_or starts (x / 2 ^ shift + 1) 0
      → get_or lows k 0 ≡ get_or numbers k 0 % 65536
  own_low k to =
      let within = next_start.within in h.known.lows_are.all k (omega arith)

  pub rising : (from end : ℕ) → get_or starts (x / 2 ^ shift) 0 ≤ from
      → end ≤ get_or starts (x / 2 ^ shift + 1) 0 → AreRising lows from end
  rising from end after before i j least ordered_too less =
      let within = next_start.within in
      let lows_i = own_low i (omega arith) in
      let lows_j = own_low j (omega arith) in
      let same : get_or numbers i 0 / 65536 ≡ get_or numbers j 0 / 65536
      = own_rest i (omega arith) (omega arith) ∙ sym (own_rest j (omega arith) (omega arith)) in
      let up : get_or numbers i 0 ≤ get_or numbers j 0 = ⊎_elim
      (λ (l : i < j).
      let a = h.partition.ascending i j l (omega arith) in omega arith)
      (λ (g : j ≤ i).
      let e : i ≡ j = omega arith in
      subst (λ (n : ℕ). get_or numbers i 0 ≤ get_or numbers n 0) e (omega arith))
      (cases_lt i j) in
      let l = low_by_least (get_or numbers i 0) (get_or numbers j 0) same up in
      omega arith

  after_all : (p : ℕ) → get_or starts (x / 2 ^ shift) 0 ≤ p
      → p ≤ get_or starts (x / 2 ^ shift + 1) 0
      → ((k : ℕ) → get_or starts (x / 2 ^ shift) 0 ≤ k → k < p → get_or lows k 0 < x % 65536)
      → (k : ℕ) → k < p → get_or numbers k 0 < x
  after_all p from to less k l = ⊎_elim
      (λ (early : k < get_or starts (x / 2 ^ shift) 0).
      less_by_part (get_or numbers k 0) x shift (x / 2 ^ shift) (own_start.before k early)
      (omega arith))
      (λ (own : get_or starts (x / 2 ^ shift) 0 ≤ k).
      let low = own_low k (omega arith) in
      let f = less k own l in
      less_by_low (get_or numbers k 0) x (own_rest k own (omega arith)) (omega arith))
      (cases_lt k (get_or starts (x / 2 ^ shift) 0))

  pub lies_at : (p : ℕ) → x < 2 ^ w → get_or starts (x / 2 ^ shift) 0 ≤ p
      → p ≤ get_or starts (x / 2 ^ shift + 1) 0
      → ((k : ℕ) → get_or starts (x / 2 ^ shift) 0 ≤ k → k < p → get_or lows k 0 < x % 65536)
      → (p < get_or starts (x / 2 ^ shift + 1) 0 → x % 65536 ≤ get_or lows p 0)
      → LiesAt numbers x p
  lies_at p small from to less least =
      let after = after_all p from to less in
      let within = next_start.within in
      let some = h.partition.some in
      let one : p < length numbers = ⊎_elim
      (λ (l : p < length numbers). l)
      (λ (all : length numbers ≤ p).
      let last = h.partition.last (length numbers - 1) (omega arith) in
      let lower = after (length numbers - 1) (omega arith) in
      absurd (omega arith))
      (cases_lt p (length numbers)) in
      record {
        one = one;
        after = after;
        within = ⊎_elim
            (λ (own : p < get_or starts (x / 2 ^ shift + 1) 0).
            let low = own_low p own in
            let l = least own in
            least_by_low (get_or numbers p 0) x (own_rest p from own) (omega arith))
            (λ (end : get_or starts (x / 2 ^ shift + 1) 0 ≤ p).
            let late : x / 2 ^ shift + 1 ≤ get_or numbers p 0 / 2 ^ shift
            = next_start.from p end one in
            let l : x < get_or numbers p 0
            = less_by_part x (get_or numbers p 0) shift (x / 2 ^ shift + 1) (omega arith) late in
            omega arith)
            (cases_lt p (get_or starts (x / 2 ^ shift + 1) 0));
      }

  -- the number is found among the first eight of its part
  pub found_in_eight : (start end less more : ℕ) → start ≡ get_or starts (x / 2 ^ shift) 0
      → end ≡ get_or starts (x / 2 ^ shift + 1) 0 → IsRunOfLess lows start (x % 65536) less
      → more ≤ less → start + more ≤ end → (start + more < end → more ≡ less) → more < 8
      → x < 2 ^ w → LiesAt numbers x (start + more)
  found_in_eight start end less more is_start is_end r few within all some small =
      lies_at (start + more) small (omega arith) (omega arith)
      (λ k from to. r.before k (omega arith) (omega arith))
      (λ to.
      let e : more ≡ less = all (omega arith) in
      subst (λ (n : ℕ). x % 65536 ≤ get_or lows (start + n) 0) (sym e) (r.next (omega arith)))

  -- the number is found among those after the first eight
  pub found_behind : (start end less p : ℕ) → start ≡ get_or starts (x / 2 ^ shift) 0
      → end ≡ get_or starts (x / 2 ^ shift + 1) 0 → IsRunOfLess lows start (x % 65536) less
      → 8 ≤ less → IsFirstFrom lows (start + 8) end (x % 65536) p → x < 2 ^ w
      → LiesAt numbers x p
  found_behind start end less p is_start is_end r all f small =
      let after = f.after in
      let within = f.within in
      lies_at p small (omega arith) (omega arith)
      (λ k from to. ⊎_elim
      (λ (early : k < start + 8). r.before k (omega arith) (omega arith))
      (λ (late : start + 8 ≤ k). f.before k late to)
      (cases_lt k (start + 8)))
      (λ to. f.next (omega arith))

-- ---- the numbers of addresses

-- one more number is the next one
pub word_pushed : {X : Type 0} (f : X → ℕ) (xs : List X) (words : List ℕ) (i : ℕ) (x : X) (word : ℕ)
    → words ≡ map f (take i xs) → i < length xs → x ≡ get_or xs i x → word ≡ f x
    → words ++ word ∷ [] ≡ map f (take (i + 1) xs)
word_pushed f xs words i x word so_far own is e =
    let more : take (i + 1) xs ≡ take i xs ++ x ∷ []
    = take_more xs i x own ∙ ap (λ n. take i xs ++ n ∷ []) (sym is) in
    rw (more, map-append)
    (ap (λ (l : List ℕ). l ++ word ∷ []) so_far
    ∙ ap (λ (n : ℕ). map f (take i xs) ++ n ∷ []) e)

-- numbers of few bits have 32 bits, and are their own last 32 bits
fits_word : (w x : ℕ) → w ≤ 32 → x < 2 ^ w → x < 2 ^ 32
fits_word w x short small = omega (arith, pow_mono short)

pub word_is : (w value x : ℕ) → w ≤ 32 → value ≡ x → value < 2 ^ w → value % 2 ^ 32 ≡ x
word_is w value x short e small = mod-eq_of_lt (fits_word w value short small) ∙ e
