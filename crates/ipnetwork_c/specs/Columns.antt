-- Calls that handle many rows at once.
use Rattle.std.specs.Prelude.{◌≡◌, ℕ, ◌<◌, ◌≤◌, List, ◌++◌, drop, get_or, length, map, slice_get, Some}
use Rattle.std.specs.Int.{from_bool}
use Rattle.ipnetwork_family.specs.Network.{Network}
use Rattle.ipnetwork_family.specs.Computed.Network.{is_member}
use Rattle.ipnetwork_c.specs.Numbers.{short_buffer}
use Rattle.ipnetwork_c.specs.Held.{PrefixFits, number_of_octets}
use Rattle.ipnetwork_c.specs.Outcomes.{Writes, Needs}
use Rattle.ipnetwork_c.specs.Answers.{IfFit}

-- 1 if the address of these octets is a member of the network, else 0
abbrev pub member_flag : ℕ → Network → List ℕ → ℕ
member_flag w n octets = from_bool (is_member w n (number_of_octets octets))

-- the flag of each row is written, if there is room, and the bytes after these flags are unchanged
abbrev pub WritesFlags : {A : Type 0} → Type 0 → (A → ℕ) → List A → List ℕ → List ℕ → ℕ → Type 0
WritesFlags Fits flag rows before =
    IfFit Fits (Needs (length rows ≤ length before) short_buffer
    (Writes (λ after. after ≡ map flag rows ++ drop (length rows) before))) before

-- the flag of each row is the one that the call for one address writes
abbrev pub AnswersRows : ℕ → Network → List (List ℕ) → List ℕ → List ℕ → ℕ → Type 0
AnswersRows w n = WritesFlags (PrefixFits w n) (member_flag w n)

-- each of the first `count` rows has the result and fault of the call for one row, and the other rows are unchanged
pub record AnswersEach {R : Type 0} (Answers : ℕ → R → R → ℕ → Type 0) (count : ℕ) (before after : List R)
    (faults_before faults : List ℕ) : Type 0 where
  pub rows : length after ≡ length before
  pub fault_rows : length faults ≡ length faults_before
  pub row : (i : ℕ) → i < count → (old new : R) × (fault : ℕ) × (slice_get before i ≡ Some old)
      × (slice_get after i ≡ Some new) × (slice_get faults i ≡ Some fault) × Answers i old new fault
  pub rest : (i : ℕ) → count ≤ i → slice_get after i ≡ slice_get before i
  pub fault_rest : (i : ℕ) → count ≤ i → slice_get faults i ≡ slice_get faults_before i

-- each address gets the result and fault of the call for one address, if there is room for all of them; `none` is the
-- value past the last address
abbrev pub AsksEach : {A : Type 0} → A → (A → ℕ → ℕ → ℕ → Type 0) → List A → List ℕ × List ℕ → List ℕ × List ℕ → ℕ
    → Type 0
AsksEach none Asks addresses before =
    Needs ((length addresses ≤ length before.0) × (length addresses ≤ length before.1)) short_buffer
    (Writes (λ after. AnswersEach (λ i. Asks (get_or addresses i none))
    (length addresses) before.0 after.0 before.1 after.1)) before
