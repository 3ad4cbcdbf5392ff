-- The general form of what a C call does to the memory that it writes: `before` and `after` are the contents, a pair if
-- there are two parts, and `code` is the number that the call returns.
use Rattle.std.specs.Prelude.{◌≡◌, ℕ, ◌-◌, ◌^◌, min}
use Rattle.ipnetwork_c.specs.Numbers.{ok, short_buffer}

-- the call succeeds, and `Written` is true of the memory
abbrev pub Writes : {M : Type 0} → (M → Type 0) → M → M → ℕ → Type 0
Writes Written before after code = (code ≡ ok) × Written after

-- the call continues, or it returns a fault whose cause holds, and the memory is unchanged
pub data Unless {M : Type 0} (Refuses : ℕ → Type 0) (GoesOn : M → M → ℕ → Type 0) (before after : M)
    (code : ℕ) : Type 0 where
  On : GoesOn before after code → Unless Refuses GoesOn before after code
  Nothing : Refuses code → after ≡ before → Unless Refuses GoesOn before after code

-- the call returns this fault, and its cause holds
abbrev pub IsFault : ℕ → Type 0 → ℕ → Type 0
IsFault fault Cause code = Cause × (code ≡ fault)

-- the call continues exactly if `Holds` is true, and otherwise returns the fault
abbrev pub Needs : {M : Type 0} → Type 0 → ℕ → (M → M → ℕ → Type 0) → M → M → ℕ → Type 0
Needs Holds fault GoesOn = Unless (IsFault fault (¬ Holds)) (λ before after code. Holds × GoesOn before after code)

-- the call continues with a value that it finds, or returns a fault
abbrev pub Finds : {A M : Type 0} → (A → Type 0) → (ℕ → Type 0) → (A → M → M → ℕ → Type 0) → M → M → ℕ → Type 0
Finds {A} Is Refuses GoesOn = Unless Refuses (λ before after code. (a : A) × Is a × GoesOn a before after code)

-- the data is put if there is room, and its size is written; without room only its size is written, at most 2^64 - 1
abbrev pub Puts : {M : Type 0} → Type 0 → ℕ → (M → Type 0) → M × ℕ → M × ℕ → ℕ → Type 0
Puts HasRoom size Put before after code =
    (after.1 ≡ min size (2 ^ 64 - 1)) × Needs HasRoom short_buffer
    (Writes (λ put. (after.1 ≡ size) × Put put)) before.0 after.0 code
