-- The names of fields of JSON documents that a command line gives.
use Rattle.std.specs.Prelude.{ℕ, ◌==◌, List, [], ◌∷◌, ◌++◌, if◌then◌else◌}
use Rattle.options.specs.declared.items.Item.{Item}
use Rattle.options.specs.declared.items.Item.TheVariants as says
use Rattle.cidr_merge.specs.Options as own

-- the NAME of a `--json-field`, and nothing of any other item
abbrev pub field_in : Item → List (List ℕ)
field_in (says.Value row name) = if row == own.json_field then name ∷ [] else []
field_in (says.Joined row name word) = if row == own.json_field then name ∷ [] else []
field_in item = []

-- the NAMEs, in their order
abbrev pub fields_of : List Item → List (List ℕ)
fields_of [] = []
fields_of (item ∷ items) = field_in item ++ fields_of items
