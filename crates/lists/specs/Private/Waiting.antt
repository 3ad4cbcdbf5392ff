-- How many of the pending lines of a list were taken.
use Rattle.std.specs.Prelude.{◌≡◌, ◌≢◌, ℕ, Bool, true, false, List, [], Result, Ok, Err}
use Rattle.lines.specs.declared.fault.RunFault.{RunFault}
use Rattle.lines.specs.declared.fault.RunFault.TheVariants.{Read, Write, InputTooLong}
use Rattle.lines.specs.LineBuffers.{Buffered, waits, HasNoFeed, IsPending, AreFirst}
use Rattle.lists.specs.Lists.{ReadLists, TakesLines}
use Rattle.lists.specs.Stopped.{EndsWithFeed}

-- the first lines of what was pending were taken, and the buffer holds the rest
pub record TakesSome (held : Buffered) (before after : ReadLists) (pending : List ℕ) : Type 0 where
  pub taken : List (List ℕ)
  pub now : List ℕ
  pub holds : IsPending held now
  pub leaves : AreFirst held.ended pending taken now
  pub takes : TakesLines before taken after

-- no whole line is pending: there is no line feed, or, if the list has ended (`true`), there is nothing
abbrev pub HasNoLine : Bool → Buffered → List ℕ → Type 0
HasNoLine false held now = HasNoFeed now × HasNoFeed (waits held)
HasNoLine true held now = now ≡ []

-- all whole lines of what was pending were taken
pub record TakesWhole (held : Buffered) (before after : ReadLists) (pending : List ℕ) : Type 0 where
  pub some : TakesSome held before after pending
  pub idle : HasNoLine held.ended held some.now

-- the Boolean says whether nothing is pending
abbrev pub TellsNone : Bool → List ℕ → Type 0
TellsNone true pending = pending ≡ []
TellsNone false pending = pending ≢ []

-- the Boolean says whether the input ends with a line feed, unless memory ran out (`out`), where it may be `true`
abbrev pub TellsEnd : Bool → Bool → List ℕ → Type 0
TellsEnd true out input = out ≡ false → EndsWithFeed input
TellsEnd false out input = ¬ (EndsWithFeed input)

-- whether a failed read ended the reading of lines
abbrev pub ended_by_read : Result Bool RunFault → Bool
ended_by_read (Ok ends) = false
ended_by_read (Err Read) = true
ended_by_read (Err Write) = false
ended_by_read (Err InputTooLong) = false
