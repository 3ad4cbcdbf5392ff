-- Which command lines are right.
use Rattle.std.specs.Prelude.{ℕ, ◌==◌, ◌&&◌, Bool, true, false, List, [], Option, length, nat_lt, nat_le, codes}
use Rattle.std.specs.Prelude.{bytes_eq}
use Rattle.std.specs.Prelude.{if◌then◌else◌}
use Rattle.std.specs.List.{list_all, list_any, count_by, find}
use Rattle.std.specs.Option.{is_none}
use Rattle.options.specs.Given.{is_given, times}
use Rattle.options.specs.Table.{kind_at}
use Rattle.options.specs.Values.{is_right}
use Rattle.options.specs.declared.items.Item.{Item}
use Rattle.options.specs.declared.items.Item.TheVariants as says
use Rattle.options.specs.declared.table.Kind.{Kind}
use Rattle.options.specs.declared.table.Kind.TheVariants as kinds
use Rattle.options.specs.declared.table.Pair.{Pair}
use Rattle.options.specs.declared.table.Row.{Row}
use Rattle.options.specs.declared.table.Table.{Table}

-- the item is right as an option: a word is one, and it has a value of its kind, if it takes one
abbrev pub is_right_option : List Row → Item → Bool
is_right_option rows (says.Flag row) = is_right (kind_at rows row) []
is_right_option rows (says.Value row value) = is_right (kind_at rows row) value
is_right_option rows (says.Joined row value word) = is_right (kind_at rows row) value
is_right_option rows (says.File name) = true
is_right_option rows (says.Unknown word) = false
is_right_option rows (says.Lacks row) = false

-- the item is right as a FILE: its name is not empty
abbrev pub is_right_name : Item → Bool
is_right_name (says.File name) = nat_lt 0 (length name)
is_right_name item = true

-- the item is right, as a FILE if `of_files`, and else as an option
abbrev pub is_right_item : List Row → Bool → Item → Bool
is_right_item rows of_files item = if of_files then is_right_name item else is_right_option rows item

-- both options of a pair are given, or, if a pair has an option twice, that option is given more than once
abbrev pub are_both : List Item → Pair → Bool
are_both items pair = if pair.first == pair.second then nat_lt 1 (times items pair.first)
    else is_given items pair.first && is_given items pair.second

-- the first of these pairs whose options are both given
abbrev pub pair_fault : List Item → List Pair → Option Pair
pair_fault items pairs = find (are_both items) pairs

-- one of these options is given
abbrev pub is_one_given : List Item → List ℕ → Bool
is_one_given items needs = list_any (is_given items) needs

-- an option of this kind has the name of a file as its value
abbrev pub is_file : Kind → Bool
is_file kinds.File = true
is_file kind = false

-- the item names standard input: it is the FILE `-`, or an option that takes a file and has the value `-`
abbrev pub is_input : List Row → Item → Bool
is_input rows (says.File name) = bytes_eq name (codes "-")
is_input rows (says.Value row text) = is_file (kind_at rows row) && bytes_eq text (codes "-")
is_input rows (says.Joined row text word) = is_file (kind_at rows row) && bytes_eq text (codes "-")
is_input rows item = false

-- the item is a FILE
abbrev pub is_name : Item → Bool
is_name (says.File name) = true
is_name item = false

-- there is a FILE among the items
abbrev pub has_file : List Item → Bool
has_file items = list_any is_name items

-- standard input is read at most once; it is also read if there is no FILE
abbrev pub is_read_once : List Row → List Item → Bool
is_read_once rows items = if has_file items then nat_le (count_by (is_input rows) items) 1
    else count_by (is_input rows) items == 0

-- a command line is right: each option and each FILE is, no two options of a pair are given together, an option of
-- `needs` is given, and standard input is read at most once
abbrev pub are_right_by : List Row → List Pair → List ℕ → List Item → Bool
are_right_by rows pairs needs items =
    list_all (is_right_item rows false) items && list_all (is_right_item rows true) items
    && is_none (pair_fault items pairs) && is_one_given items needs && is_read_once rows items

-- the same, by the table of the program's options
abbrev pub are_right : Table → List Item → Bool
are_right table items = are_right_by table.rows.now table.pairs.now table.needs.now items
