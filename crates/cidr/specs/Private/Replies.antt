-- How contracts see the replies that wait.
use Rattle.std.specs.Prelude.{ℕ, List}
use Rattle.lines.specs.Buffers as engine
use Rattle.lines.specs.Buffers.{Filled}
use Rattle.cidr.specs.declared.replies.TheConstants.{ANSWER_MAX}
use Rattle.cidr.specs.Output.{MayGet, reply}
use Rattle.cidr.specs.Requests.{Request}
use Rattle.cidr.specs.Routes.{Routes}

-- there is room for one more reply
abbrev pub HasRoom : Filled → Type 0
HasRoom replies = engine.HasRoom replies ANSWER_MAX

-- an answer and a line feed were added
abbrev pub Adds : Filled → Filled → List ℕ → Type 0
Adds old new answer = engine.Adds old new (reply answer)

-- an answer that the request may get was added
abbrev pub RepliesTo : Routes → Request → Filled → Filled → Routes → Type 0
RepliesTo before request old new after = (answer : List ℕ) × MayGet before request answer after × Adds old new answer
