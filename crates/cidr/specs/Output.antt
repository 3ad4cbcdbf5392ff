-- Which outputs are allowed for an input.
use Rattle.std.specs.Prelude.{◌≡◌, ℕ, ◌⊎◌, List, [], ◌∷◌, ◌++◌, Option, None, Some, codes}
use Rattle.std.specs.List.{flat_map}
use Rattle.std.specs.Str.Lines.{lines}
use Rattle.cidr.specs.Finding.{Finds}
use Rattle.cidr.specs.Requests.{Request, Add, Drop, Find, Plain, request_of}
use Rattle.cidr.specs.Routes.{Routes, no_routes, number_at, with_number, without}
use Rattle.cidr.specs.Turns as turns

-- the answers to `add` and to `drop`, given the number that the block had before
abbrev pub added : Option ℕ → List ℕ
added None = codes "new"
added (Some number) = codes "changed"

abbrev pub dropped : Option ℕ → List ℕ
dropped None = codes "absent"
dropped (Some number) = codes "dropped"

-- the answer to an `add` that runs out of memory
abbrev pub out_of_memory : List ℕ
out_of_memory = codes "out of memory"

-- with the routes `before`, a request gets this answer and leaves the routes `after`, if it does not run out of memory
abbrev pub Gets : Routes → Request → List ℕ → Routes → Type 0
-- the block gets the number
Gets before (Add network number) answer after = (answer ≡ added (number_at before network))
    × (after ≡ with_number before network number)
-- the block loses its number
Gets before (Drop network) answer after = (answer ≡ dropped (number_at before network))
    × (after ≡ without before network)
-- the routes are searched, and do not change
Gets before (Find address) answer after = Finds before address answer × (after ≡ before)
-- the routes are not used, and do not change
Gets before (Plain text) answer after = (answer ≡ text) × (after ≡ before)

-- the request runs out of memory: only an `add` of a block that had no number can, and the routes do not change
abbrev pub RunsOut : Routes → Request → List ℕ → Routes → Type 0
RunsOut before (Add network number) answer after = (number_at before network ≡ None) × (answer ≡ out_of_memory)
    × (after ≡ before)
RunsOut before (Drop network) answer after = ⊥
RunsOut before (Find address) answer after = ⊥
RunsOut before (Plain text) answer after = ⊥

-- the answers that a request may get, and the routes that it then leaves
abbrev pub MayGet : Routes → Request → List ℕ → Routes → Type 0
MayGet before request answer after = Gets before request answer after ⊎ RunsOut before request answer after

-- starting with the routes `before`, the lines get these answers in turn, one each, and leave the routes `after`
abbrev pub InTurn : (Routes → Request → List ℕ → Routes → Type 0) → Routes → List (List ℕ) → List (List ℕ) → Routes
    → Type 0
InTurn Get = turns.InTurn (λ before line answer after. Get before (request_of line) answer after)

-- the answers that the lines may get
abbrev pub MayAnswer : Routes → List (List ℕ) → List (List ℕ) → Routes → Type 0
MayAnswer = InTurn MayGet

-- an answer followed by a line feed
abbrev pub reply : List ℕ → List ℕ
reply answer = answer ++ 10 ∷ []

-- what is written for the answers
abbrev pub replies : List (List ℕ) → List ℕ
replies answers = flat_map reply answers

-- the outputs that are allowed for an input that starts with the routes `before` and leaves the routes `after`: a reply
-- to each line. `lines` cuts at each line feed and drops one carriage return before it; what follows the last line feed
-- is also a line, unless it is empty
abbrev pub IsOutputFrom : Routes → List ℕ → List ℕ → Routes → Type 0
IsOutputFrom before input output after = (answers : List (List ℕ)) × MayAnswer before (lines input) answers after
    × (output ≡ replies answers)

-- the outputs that are allowed for an input: a run starts with no routes
abbrev pub IsOutput : List ℕ → List ℕ → Type 0
IsOutput input output = (after : Routes) × IsOutputFrom no_routes input output after
