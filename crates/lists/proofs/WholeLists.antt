-- How the bytes of lists are read.
use Rattle.lists.proofs.Words.{◌≡◌, ◌<◌, ◌∙◌, ℕ, Bool, true, List, ◌++◌, sym, ap, arith, length, append-nil, length-append, Option, None, Some, Result, Ok, Err, IfOk, IfErr, IsTrue, Consumes, IsAtEnd, none-some, IsAllOf, BytesStop, KnownLists, ReadsAll, ReadsMore, StopsReading, BytesFault}
use Rattle.lists.specs.declared.bytes.BytesFault.TheVariants as faults

some_are_one : (a b : List ℕ) → Some a ≡ Some b → a ≡ b
some_are_one a b e = cc

all_read : (remained remains : Option (List ℕ)) (read input : List ℕ) → remained ≡ Some input
    → Consumes remained remains read → IsAtEnd remains → read ≡ input
all_read None remains read input e h end = absurd (none-some input e)
all_read (Some was) None read input e h end = absurd h
all_read (Some was) (Some left) read input e h end =
    sym (sym (some_are_one was input e) ∙ h ∙ ap (λ t. read ++ t) end ∙ append-nil read)

as_long : (least : ℕ) (remained remains : Option (List ℕ)) (input : List ℕ) → remained ≡ Some input
    → ReadsMore least remained remains → least < length input
as_long least None remains input e h = absurd (none-some input e)
as_long least (Some was) None input e h = absurd h.1
as_long least (Some was) (Some left) input e h =
    omega (arith, h.2, ap (λ (l : List ℕ). length l) (sym (some_are_one was input e) ∙ h.1), length-append h.0 left)

module _ (known : KnownLists) (name : List ℕ) (remained remains : Option (List ℕ)) (has : (input : List ℕ)
    → known.bytes_of name ≡ Some input → remained ≡ Some input) (opened : known.may_open name true) where
  pub bytes_read : {X : Type 0} (items : X → List ℕ) (result : Result X BytesFault)
      → IfOk result (λ t. ReadsAll remained remains (items t)) → IfOk result (λ t. IsAllOf known name (items t))
  bytes_read items (Ok bytes) h =
      (opened, λ input e. all_read remained remains (items bytes) input (has input e) h.0 h.1)
  bytes_read items (Err fault) h = tt

  stops_by : (most : ℕ) (failed : Bool) (fault : BytesFault) → (IsTrue failed → known.may_fail name)
      → StopsReading remained remains failed most fault → BytesStop known name most fault
  stops_by most failed (faults.Open cause) fails h = absurd h
  stops_by most failed faults.Read fails h = (opened, fails h)
  stops_by most failed faults.Length fails h = (opened, λ input e. as_long most remained remains input (has input e) h)
  stops_by most failed faults.OutOfMemory fails h =
      (opened, λ input e. as_long 0 remained remains input (has input e) h)

  pub bytes_stop : {X : Type 0} (most : ℕ) (failed : Bool) (result : Result X BytesFault)
      → (IsTrue failed → known.may_fail name) → IfErr result (StopsReading remained remains failed most)
      → IfErr result (BytesStop known name most)
  bytes_stop most failed (Ok bytes) fails h = tt
  bytes_stop most failed (Err fault) fails h = stops_by most failed fault fails h
