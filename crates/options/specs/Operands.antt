-- Which command lines are right that need a FILE and no option.
use Rattle.std.specs.Prelude.{◌&&◌, Bool, true, false, not, List, [], ◌∷◌}
use Rattle.std.specs.List.{list_all}
use Rattle.std.specs.Option.{is_none}
use Rattle.options.specs.Faults.{is_right_item, pair_fault, has_file, is_read_once}
use Rattle.options.specs.Items.{begins}
use Rattle.options.specs.declared.items.Item.{Item}
use Rattle.options.specs.declared.items.Item.TheVariants as says
use Rattle.program.specs.Usage.{is_stand_in}
use Rattle.options.specs.declared.table.Table.{Table}

-- a command line that needs a FILE, which may be empty, is right by the table of the program's options: each option is,
-- no two options of a pair are given together, there is a FILE, and standard input is read at most once
abbrev pub are_right_operands : Table → List Item → Bool
are_right_operands table items =
    list_all (is_right_item table.rows.now false) items && is_none (pair_fault items table.pairs.now)
    && has_file items && is_read_once table.rows.now items

-- an item of a command line is no word that stands for one that is not UTF-8, unless as a FILE that does not begin with
-- `-` (45) after the NUL
abbrev pub is_taken : Item → Bool
is_taken (says.File name) = not (begins (0 ∷ 45 ∷ []) name)
is_taken (says.Value row value) = not (is_stand_in value)
is_taken (says.Joined row value word) = not (is_stand_in value)
is_taken (says.Flag row) = true
is_taken (says.Unknown word) = true
is_taken (says.Lacks row) = true
