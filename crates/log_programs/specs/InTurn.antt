-- What is given for the lines of a log, or for logs, one after another.
use Rattle.std.specs.Prelude.{◌≡◌, ◌⊎◌, Bool, true, false, List, [], ◌∷◌, ◌++◌, Option, None, Some, MatchOption}

-- nothing more is given, and the run goes on in this state, or ends (`None`)
abbrev pub Ends : {S X : Type 0} → Option S → List X → Option S → Type 0
Ends is output end = (output ≡ []) × (end ≡ is)

-- what is given for items that are taken in turn, and the state after them, or `None` if one ends the run; those
-- before them left `state`. `Gives` says what one item gives and leaves. None is looked at in a state that is full. If
-- a device failed (`cut`), the run may end before any item
abbrev pub InTurn : {S I X : Type 0} → (S → Bool) → (S → I → List X → Option S → Type 0) → Bool → S → List I → List X
    → Option S → Type 0
InTurn is_full Gives cut state [] output end = Ends (Some state) output end ⊎ ((cut ≡ true) × Ends None output end)
InTurn {S = S} {X = X} is_full Gives cut state (item ∷ items) output end =
    ((is_full state ≡ true) × Ends (Some state) output end)
    ⊎ (((cut ≡ true) × Ends None output end)
    ⊎ ((is_full state ≡ false) × (given : List X) × (others : List X) × (next : Option S) × Gives state item given next
    × (output ≡ given ++ others)
    × MatchOption next (Ends None others end) (λ left. InTurn is_full Gives cut left items others end)))

-- whatever the items to come (`rest`) give, all of them give what was added and then that
abbrev pub GoesOn : {S I X : Type 0} → (S → Bool) → (S → I → List X → Option S → Type 0) → Bool → S → List I → List X
    → S → List I → Type 0
GoesOn {S = S} {X = X} is_full Gives cut start all added state rest = (given : List X) (end : Option S)
    → InTurn is_full Gives cut state rest given end → InTurn is_full Gives cut start all (added ++ given) end
