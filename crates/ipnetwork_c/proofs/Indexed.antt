-- A search that is guessed to end at a place: the two networks there decide whether it does.
use Rattle.ipnetwork_c.proofs.Words.{◌≡◌, ◌↔◌, ℕ, ◌-◌, ◌<◌, ◌≤◌, List, length, map, get_or, Bool, true, false, IsTrue, refl, subst, arith, not, length-map, slice_get_read, Network, not_below, read_pair, StandsAt, LastUpTo, NextAfter}
use Rattle.ipnetwork_c.proofs.Searching.{last_at, next_at}
use Rattle.ipnetwork_c.proofs.Truths.{no_true}

-- the network at place i decides `NextAfter` for i
pub next_told : (ns : List Network) (x i : ℕ) (b : Network) (begins : Bool) → i < length ns → b ≡ get_or ns i b
    → (IsTrue begins ↔ b.address ≤ x) → (IsTrue (not begins) ↔ NextAfter ns x i)
next_told ns x i b true within is told = (
  (λ t. absurd (no_true t)),
  (λ next.
      let later : x < b.address = next b (slice_get_read ns (length ns) i b refl within is) in
      let up : b.address ≤ x = told.0 refl in
      absurd (omega arith)),
)
next_told ns x i b false within is told = (
  (λ _. next_at ns x i i b refl is (not_below b.address x (λ up. no_true (told.1 up)))),
  (λ _. refl),
)

-- the network before place i decides `LastUpTo` for i
pub last_told : (ns : List Network) (x i : ℕ) (b : Network) (begins : Bool) → 0 < i → i ≤ length ns
    → b ≡ get_or ns (i - 1) b → (IsTrue begins ↔ b.address ≤ x) → (IsTrue begins ↔ LastUpTo ns x i)
last_told ns x i b begins some within is told = (
  (λ t. last_at ns x i (i - 1) b (omega arith) is (told.0 t)),
  (λ last. told.1 (last b some (slice_get_read ns (length ns) (i - 1) b refl (omega arith) is))),
)

-- the same, by the struct read at that place
pub read_before_tells : {C : Type 0} (held : C → Network) (list : List C) (x i last : ℕ) (c : C) (begins : Bool)
    → c ≡ get_or list last c → last ≡ i - 1 → 0 < i → i ≤ length list → (IsTrue begins ↔ (held c).address ≤ x)
    → (IsTrue begins ↔ LastUpTo (map held list) x i)
read_before_tells held list x i last c begins is before some within told =
    let size = length-map list held in
    let read : held c ≡ get_or (map held list) (i - 1) (held c) = subst (λ (k : ℕ). held c ≡ get_or (map held list) k
    (held c)) before (read_pair held list last c (omega (arith, before, some, within)) is) in
    last_told (map held list) x i (held c) begins some (omega (arith, size, within)) read told

-- the search ends where both hold
pub ends_at : (ns : List Network) (x i : ℕ) → i ≤ length ns → LastUpTo ns x i → NextAfter ns x i → StandsAt ns x i
ends_at ns x i within last next = record { within = within; last = last; next = next }
