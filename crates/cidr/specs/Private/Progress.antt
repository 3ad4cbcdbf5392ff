-- The progress of a run.
use Rattle.std.specs.Prelude.{◌≡◌, ℕ, ◌+◌, true, List, [], ◌++◌, length, Option}
use Rattle.std.specs.Io.KnownBytes.{Consumes, IsAtEnd}
use Rattle.lines.specs.LineBuffers.{Buffered, IsPending, AreFirst}
use Rattle.lines.specs.Outputs.{AppendsBeginning, Puts}
use Rattle.cidr.specs.declared.answering.Answering.{Answering}
use Rattle.cidr.specs.Output.{MayGet, MayAnswer, replies}
use Rattle.cidr.specs.Private.Routes.{routes_of}
use Rattle.cidr.specs.Requests.{request_of}
use Rattle.cidr.specs.Routes.{Routes, no_routes}
use Rattle.cidr.specs.Turns as turns

pub record Standing : Type 0 where
  -- the bytes that the writer holds, if its contract gives them
  pub holds : Option (List ℕ)
  -- the replies that wait to be written
  pub waits : List ℕ
  -- the routes that the run keeps
  pub routes : Routes

abbrev pub standing : Option (List ℕ) → Answering → Standing
standing holds answering = record {
  holds = holds;
  waits = answering.waiting.items;
  routes = routes_of answering.routes;
}

-- the state at the start of a run
abbrev pub begun : Option (List ℕ) → Standing
begun holds = record { holds = holds; waits = []; routes = no_routes }

-- between the two states, the lines got answers, which were written after what waited, or wait to be written
pub record Answered (from to : Standing) (asks : List (List ℕ)) : Type 0 where
  pub answers : List (List ℕ)
  pub turns : MayAnswer from.routes asks answers to.routes
  pub puts : Puts from.holds from.waits to.holds to.waits (replies answers)

-- answers that the first of these lines may get, in turn
abbrev pub FirstMayAnswer : Routes → List (List ℕ) → List (List ℕ) → Type 0
FirstMayAnswer = turns.FirstInTurn (λ before line answer after. MayGet before (request_of line) answer after)

-- from this state on, the writer failed within what waited and the answers to the first of these lines
pub record FailsWithin (from : Standing) (holds : Option (List ℕ)) (asks : List (List ℕ)) : Type 0 where
  pub answers : List (List ℕ)
  pub turns : FirstMayAnswer from.routes asks answers
  pub took : AppendsBeginning from.holds holds (from.waits ++ replies answers)

-- what was read, if `room` more bytes are within the limit: its first lines got answers, and what follows them is
-- pending
pub record RunSoFar (limit room : ℕ) (held : Buffered) (unread_before unread_after : Option (List ℕ))
    (start now : Standing) : Type 0 where
  pub read : List ℕ
  pub consumed : Consumes unread_before unread_after read
  pub counted : length read + room ≡ limit
  pub at_end : held.ended ≡ true → IsAtEnd unread_after
  pub pending : List ℕ
  pub holds : IsPending held pending
  pub asks : List (List ℕ)
  pub first : AreFirst held.ended read asks pending
  pub answers : Answered start now asks
