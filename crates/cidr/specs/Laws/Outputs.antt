-- The laws of outputs.
use Rattle.std.specs.Prelude.{◌≡◌, ◌≢◌, ◌↔◌, ℕ, List, [], ◌∷◌, ◌++◌, length, drop, Contains, codes}
use Rattle.std.specs.List.{flat_map, AllByRecursion}
use Rattle.std.specs.Str.Lines.{lines}
use Rattle.cidr.specs.Computed.Output.{output_of, answer_of}
use Rattle.cidr.specs.Output.{out_of_memory, Gets, MayGet, InTurn, MayAnswer, reply, replies, IsOutputFrom, IsOutput}
use Rattle.cidr.specs.Requests.{request_of}
use Rattle.cidr.specs.Routes.{Routes, no_routes}
use Rattle.cidr.specs.Words.{words}

-- ---- the output if no `add` runs out of memory

-- the output for an input if no `add` runs out of memory
abbrev pub IsFullOutput : List ℕ → List ℕ → Type 0
IsFullOutput input output = (answers : List (List ℕ)) × (after : Routes)
    × InTurn Gets no_routes (lines input) answers after × (output ≡ replies answers)

-- if no `add` runs out of memory, the output is the computed one, and no other
abbrev pub FullIsComputed : Type 0
FullIsComputed = (input output : List ℕ) → IsFullOutput input output ↔ (output ≡ output_of input)

-- the computed output is allowed
abbrev pub ComputedIsAllowed : Type 0
ComputedIsAllowed = (input : List ℕ) → IsOutput input (output_of input)

-- an allowed output in which no answer is `out of memory`
abbrev pub IsUnrefusedOutput : List ℕ → List ℕ → Type 0
IsUnrefusedOutput input output = (answers : List (List ℕ)) × (after : Routes)
    × MayAnswer no_routes (lines input) answers after
    × (output ≡ replies answers) × AllByRecursion (λ answer. answer ≢ out_of_memory) answers

-- an allowed output in which no answer is `out of memory` is the computed one
abbrev pub UnrefusedIsComputed : Type 0
UnrefusedIsComputed = (input output : List ℕ) → IsUnrefusedOutput input output → output ≡ output_of input

-- an allowed output in which no line is `out of memory` is the computed one
abbrev pub UnrefusedLinesAreComputed : Type 0
UnrefusedLinesAreComputed = (input output : List ℕ) → IsOutput input output
    → AllByRecursion (λ line. line ≢ out_of_memory) (lines output) → output ≡ output_of input

-- ---- lines by what they do with the routes

-- the line's first word is neither `add` nor `drop`
pub record IsAskingLine (line : List ℕ) : Type 0 where
  pub command : List ℕ
  pub others : List (List ℕ)
  pub cut : words line ≡ command ∷ others
  pub no_add : command ≢ codes "add"
  pub no_drop : command ≢ codes "drop"

-- the line's first word is none of `add`, `drop` and `find`
pub record IsPlainLine (line : List ℕ) : Type 0 where
  pub asking : IsAskingLine line
  pub no_find : asking.command ≢ codes "find"

-- every other line begins with one of the three
abbrev pub OthersAreRouting : Type 0
OthersAreRouting = (line : List ℕ) → ¬ (IsPlainLine line)
    → (command : List ℕ) × (others : List (List ℕ)) × (words line ≡ command ∷ others)
    × Contains (codes "add" ∷ codes "drop" ∷ codes "find" ∷ []) command

-- such a line has one answer, whatever the routes are, and does not change them
abbrev pub PlainLinesAskNothing : Type 0
PlainLinesAskNothing = (line answer : List ℕ) (before after : Routes) → IsPlainLine line
    → MayGet before (request_of line) answer after ↔ ((answer ≡ answer_of line) × (after ≡ before))

-- an input of only such lines has one output: for each line, its answer and a line feed
abbrev pub plain_output : List ℕ → List ℕ
plain_output input = flat_map (λ line. reply (answer_of line)) (lines input)

abbrev pub PlainInputsHaveOneOutput : Type 0
PlainInputsHaveOneOutput = (input output : List ℕ) → AllByRecursion IsPlainLine (lines input)
    → IsOutput input output ↔ (output ≡ plain_output input)

-- ---- an input in two parts

-- the first part of the input ends with a line feed
abbrev pub EndsALine : List ℕ → Type 0
EndsALine front = (text : List ℕ) × (front ≡ text ++ 10 ∷ [])

-- an output for both parts is an output for the first part followed by an output for the second part, which starts with
-- the routes that the first leaves
abbrev pub IsOutputInParts : Routes → List ℕ → List ℕ → List ℕ → Routes → Type 0
IsOutputInParts before front back output after = (between : Routes) × (one : List ℕ) × (two : List ℕ)
    × IsOutputFrom before front one between × IsOutputFrom between back two after × (output ≡ one ++ two)

abbrev pub SplitsAtLineEnds : Type 0
SplitsAtLineEnds = (front back output : List ℕ) (before after : Routes) → EndsALine front
    → IsOutputFrom before (front ++ back) output after ↔ IsOutputInParts before front back output after

-- if no line of the first part begins with `add`, `drop` or `find`, each part may be run separately
abbrev pub PlainPartsRunAlone : Type 0
PlainPartsRunAlone = (front back output : List ℕ) → EndsALine front → AllByRecursion IsPlainLine (lines front)
    → IsOutput (front ++ back) output ↔ ((one : List ℕ) × (two : List ℕ) × IsOutput front one × IsOutput back two
    × (output ≡ one ++ two))

-- if the lines that add routes come first, and the lines of the next part do not change them, each part may be run
-- separately after these routes: if no `add` runs out of memory, the output for everything is the output for the routes
-- and the first part, followed by what the output for the routes and the second part has after the output for the
-- routes
abbrev pub AskingPartsRunAfterRoutes : Type 0
AskingPartsRunAfterRoutes = (routes front back : List ℕ) → EndsALine routes → EndsALine front
    → AllByRecursion IsAskingLine (lines front)
    → output_of (routes ++ (front ++ back)) ≡ output_of (routes ++ front)
    ++ drop (length (output_of routes)) (output_of (routes ++ back))
