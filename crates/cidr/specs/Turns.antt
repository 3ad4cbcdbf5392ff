-- Questions that are answered in turn, each in the state that the previous one leaves.
use Rattle.std.specs.Prelude.{◌≡◌, List, [], ◌∷◌}

-- starting in the state `before`, the questions get these answers in turn, one each, and leave the state `after`
abbrev pub InTurn : {S Q A : Type 0} → (S → Q → A → S → Type 0) → S → List Q → List A → S → Type 0
-- without questions, the state does not change
InTurn Gets before [] [] after = after ≡ before
-- the first question is answered, and the others in the state that it leaves
InTurn Gets before (question ∷ questions) (answer ∷ answers) after = (between : _) × Gets before question answer between
    × InTurn Gets between questions answers after
-- there are exactly as many answers as questions
InTurn Gets before [] (answer ∷ answers) after = ⊥
InTurn Gets before (question ∷ questions) [] after = ⊥

-- the answers are those of the first of the questions, in turn
abbrev pub FirstInTurn : {S Q A : Type 0} → (S → Q → A → S → Type 0) → S → List Q → List A → Type 0
-- there may be no answers at all
FirstInTurn Gets before questions [] = Unit {0}
-- the first question is answered, and the next ones in the state that it leaves
FirstInTurn Gets before (question ∷ questions) (answer ∷ answers) = (between : _) × Gets before question answer between
    × FirstInTurn Gets between questions answers
-- there are at most as many answers as questions
FirstInTurn Gets before [] (answer ∷ answers) = ⊥
