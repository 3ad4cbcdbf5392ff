-- Which options are given, their values, and the FILEs.
use Rattle.std.specs.Prelude.{ℕ, ◌==◌, Bool, false, List, [], ◌∷◌, ◌++◌, if◌then◌else◌, codes}
use Rattle.std.specs.List.{list_any, count_by}
use Rattle.options.specs.declared.items.Item.{Item}
use Rattle.options.specs.declared.items.Item.TheVariants as says

-- the item is the option of this row, even if it lacks its value
abbrev pub names : ℕ → Item → Bool
names row (says.Flag one) = one == row
names row (says.Value one text) = one == row
names row (says.Joined one text word) = one == row
names row (says.Lacks one) = one == row
names row item = false

-- the option of this row is given
abbrev pub is_given : List Item → ℕ → Bool
is_given items row = list_any (names row) items

-- how often the option of this row is given
abbrev pub times : List Item → ℕ → ℕ
times items row = count_by (names row) items

-- the value that the item has if it is the option of this row with one, and else `value`
abbrev pub value_in : ℕ → List ℕ → Item → List ℕ
value_in row value (says.Value one text) = if one == row then text else value
value_in row value (says.Joined one text word) = if one == row then text else value
value_in row value item = value

-- the value of the last option of this row that has one, or `value` if there is none
abbrev pub last_value : ℕ → List ℕ → List Item → List ℕ
last_value row value [] = value
last_value row value (item ∷ items) = last_value row (value_in row value item) items

-- the last value that the option of this row is given, or an empty text if there is none
abbrev pub value_of : List Item → ℕ → List ℕ
value_of items row = last_value row [] items

-- the name of a FILE, and nothing of any other item
abbrev pub file_in : Item → List (List ℕ)
file_in (says.File name) = name ∷ []
file_in item = []

-- the names of the FILEs, in their order
abbrev pub files_of : List Item → List (List ℕ)
files_of [] = []
files_of (item ∷ items) = file_in item ++ files_of items

-- these files, or `-`, which stands for standard input, if there are none
abbrev pub or_input : List (List ℕ) → List (List ℕ)
or_input [] = codes "-" ∷ []
or_input (file ∷ files) = file ∷ files

-- the names of the files to read: the FILEs, or `-`, which stands for standard input, if there are none
abbrev pub inputs_of : List Item → List (List ℕ)
inputs_of items = or_input (files_of items)
