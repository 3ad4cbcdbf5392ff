-- The limits of lines, buffers and writes, and the ends of runs, at which a misreading of the definitions would show.
use Rattle.lines.proofs.Words.{◌≡◌, ℕ, List, [], ◌∷◌, true, false, refl, arith, codes, map, None, Some, Result, Ok, Err, asked, HasRoom, IsDropped, end_bytes, LineFeed, ReturnAndLineFeed, EndOfInput, ended_by_read, ended_by_write, write_fails, RunFault, Read, Write, InputTooLong}

-- a line of as many bytes as the limit is not too long
pub limits : map (asked 2) (codes "abc" ∷ codes "ab" ∷ [] ∷ []) ≡ None ∷ Some (codes "ab") ∷ Some [] ∷ []
limits = refl

pub ends : map end_bytes (LineFeed ∷ ReturnAndLineFeed ∷ EndOfInput ∷ []) ≡ (10 ∷ []) ∷ (13 ∷ 10 ∷ []) ∷ [] ∷ []
ends = refl

-- a buffer that holds three bytes has room for two after one, and for no more
pub room_for_two : HasRoom (record { items = 1 ∷ []; capacity = 3 }) 2
room_for_two = omega arith

pub no_room_for_three : ¬ (HasRoom (record { items = 1 ∷ []; capacity = 3 }) 3)
no_room_for_three h = omega (arith, h)

-- a line of three bytes, the last of which may be a carriage return, is not yet longer than two
pub three_are_kept : ¬ (IsDropped true 2 (codes "abc"))
three_are_kept h = omega (arith, h.1)

-- a write fails if it takes none of some bytes, or returns an error
abbrev took : ℕ → Result ℕ RunFault
took count = Ok count

abbrev refused : Result ℕ RunFault
refused = Err Write

pub writes : map (λ count. write_fails (took count) (codes "ab")) (0 ∷ 1 ∷ 2 ∷ []) ≡ true ∷ false ∷ false ∷ []
writes = refl

pub writes_of_nothing : (write_fails (took 0) [] ≡ false) × (write_fails refused [] ≡ true)
writes_of_nothing = (refl, refl)

-- how runs end: without a fault, and for each one
abbrev runs : List (Result (Unit {0}) RunFault)
runs = Ok tt ∷ Err Read ∷ Err Write ∷ Err InputTooLong ∷ []

pub failed_reads : map ended_by_read runs ≡ false ∷ true ∷ false ∷ false ∷ []
failed_reads = refl

pub failed_writes : map ended_by_write runs ≡ false ∷ false ∷ true ∷ false ∷ []
failed_writes = refl
