-- How a run ends, by what the words of its command line ask for.
use Rattle.std.specs.Prelude.{◌≡◌, ◌++◌, List, ℕ, true, false, None, ◌⊎◌, codes, String}
use Rattle.program.specs.Endings.{Ending, IsSilent, Refuses}
use Rattle.program.specs.Runs.{EndsRun, text_asked}
use Rattle.options.specs.Faults.{are_right}
use Rattle.options.specs.Items.{items_of}
use Rattle.options.specs.declared.items.Item.{Item}
use Rattle.options.specs.declared.items.Mode.TheVariants as modes
use Rattle.options.specs.declared.table.Table.{Table}

-- the command line is wrong, nothing is written and the exit status is 2; or it is right, and what it asks for is done
abbrev pub EndsAsked : {W E : Type 0} → Table → List Item → (List Item → Type 0) → Ending W E → Type 0
EndsAsked table items IsDone end = ((are_right table items ≡ false) × IsSilent end)
    ⊎ ((are_right table items ≡ true) × IsDone items)

-- how a run ends, for a program of this name, help and version: it prints the help or the version if the only
-- word asks for it; otherwise it reports that memory ran out, and does nothing else, or it ends by the items that the
-- words say
abbrev pub EndsAs : {Z W E : Type 0} → Table → List ℕ → List ℕ → List ℕ → List (String Z)
    → (List Item → Type 0) → Ending W E → Type 0
EndsAs table program help version words IsDone end = EndsRun help version words
    (Refuses (program ++ codes ": out of memory\n") end
    ⊎ EndsAsked table (items_of table.rows.now modes.Free words) IsDone end) end

-- the run ends without doing what the words ask for: it prints the help or the version, memory ran out, or the command
-- line is wrong
abbrev pub EndsAtOnce : {Z W E : Type 0} → Table → List ℕ → List ℕ → List ℕ → List (String Z) → Ending W E → Type 0
EndsAtOnce table program help version words end = EndsAs table program help version words (λ items. ⊥) end

-- the words ask neither for the help nor for the version, they say these items, and the command line is right
pub record AsksFor {Z : Type 0} (table : Table) (help version : List ℕ) (words : List (String Z))
    (items : List Item) : Type 0 where
  pub no_text : text_asked help version words ≡ None
  pub are : items ≡ items_of table.rows.now modes.Free words
  pub right : are_right table items ≡ true
