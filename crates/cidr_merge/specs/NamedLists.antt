-- The lists that a command line names: FILEs, and TEXTs of `-e`, which are among them.
use Rattle.std.specs.Prelude.{ℕ, ◌==◌, ◌&&◌, List, [], ◌∷◌, ◌++◌, Option, None, Some, if◌then◌else◌, codes}
use Rattle.std.specs.Option.{is_some}
use Rattle.options.specs.declared.items.Item.{Item}
use Rattle.options.specs.declared.items.Item.TheVariants as says
use Rattle.cidr_merge.specs.Options as own

-- a TEXT is named `-e TEXT`, as no FILE is
abbrev pub text_name : List ℕ → List ℕ
text_name text = codes "-e " ++ text

-- the name of a list, and nothing of any other item
abbrev pub list_in : Item → List (List ℕ)
list_in (says.File name) = name ∷ []
list_in (says.Value row text) = if row == own.text then text_name text ∷ [] else []
list_in (says.Joined row text word) = if row == own.text then text_name text ∷ [] else []
list_in item = []

-- the names of the lists, in their order
abbrev pub lists_of : List Item → List (List ℕ)
lists_of [] = []
lists_of (item ∷ items) = list_in item ++ lists_of items

-- the TEXT of the list of this name, if it is one: what comes after `-`, `e` and a space
abbrev pub text_in : List ℕ → Option (List ℕ)
text_in (dash ∷ letter ∷ space ∷ text) = if dash == 45 && letter == 101 && space == 32 then Some text else None
text_in name = None

-- the name of a FILE that an option names: with `./` before it, if it would be that of a TEXT
abbrev pub file_name : List ℕ → List ℕ
file_name name = if is_some (text_in name) then codes "./" ++ name else name
