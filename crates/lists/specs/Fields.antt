-- The strings of fields: of members of JSON's objects that have one of some names.
use Rattle.std.specs.Prelude.{◌≡◌, ◌||◌, ℕ, Bool, true, false, not, List, [], ◌∷◌, ◌++◌, Option, Some, bytes_eq, codes}
use Rattle.std.specs.Prelude.{if◌then◌else◌}
use Rattle.std.specs.List.{list_any, position}
use Rattle.serde_json.specs.Data.{Data, null, boolean, number, string, array, object, Items, no_items, item, Members}
use Rattle.serde_json.specs.Data.{no_members, member}

-- the key is one of the names, byte by byte
abbrev pub is_named : List (List ℕ) → List ℕ → Bool
is_named [] key = false
is_named (name ∷ names) key = bytes_eq name key || is_named names key

-- a member of this name is in the value, at any depth
abbrev mutual
  pub has_field : List ℕ → Data → Bool
  has_field name null = false
  has_field name (boolean b) = false
  has_field name (number n) = false
  has_field name (string text) = false
  has_field name (array values) = items_have_field name values
  has_field name (object members) = members_have_field name members

  pub items_have_field : List ℕ → Items → Bool
  items_have_field name no_items = false
  items_have_field name (item value values) = has_field name value || items_have_field name values

  pub members_have_field : List ℕ → Members → Bool
  members_have_field name no_members = false
  members_have_field name (member key value members) =
      bytes_eq name key || (has_field name value || members_have_field name members)

-- a member of this name is in one of the documents
abbrev pub have_field : List Data → List ℕ → Bool
have_field documents name = list_any (has_field name) documents

-- the place, among the names, of the first one of which the documents have no member; of no names, 0
abbrev pub first_lacking : List (List ℕ) → List Data → Option ℕ
first_lacking [] documents = Some 0
first_lacking (name ∷ names) documents = position (λ one. not (have_field documents one)) (name ∷ names)

-- the text of a field, and nothing outside of fields
abbrev pub if_within : Bool → List ℕ → List (List ℕ)
if_within within text = if within then text ∷ [] else []

-- the texts of a value in their order, `within` a field of one of the names or outside of such fields: within one, a
-- string itself, and for a boolean or a number words that name no entry; of an array, those of its elements, which are
-- within a field if it is; of an object, those of its members, which are within a field if their key is one of the names
abbrev mutual
  pub texts_within : List (List ℕ) → Bool → Data → List (List ℕ)
  texts_within names within null = []
  texts_within names within (boolean b) = if_within within (codes "a boolean")
  texts_within names within (number n) = if_within within (codes "a number")
  texts_within names within (string text) = if_within within text
  texts_within names within (array values) = texts_of_items names within values
  texts_within names within (object members) = texts_of_members names members

  pub texts_of_items : List (List ℕ) → Bool → Items → List (List ℕ)
  texts_of_items names within no_items = []
  texts_of_items names within (item value values) = texts_within names within value ++ texts_of_items names within values

  pub texts_of_members : List (List ℕ) → Members → List (List ℕ)
  texts_of_members names no_members = []
  texts_of_members names (member key value members) =
      texts_within names (is_named names key) value ++ texts_of_members names members

-- the strings of the fields of these names in a document, at any depth
abbrev pub field_strings_of : List (List ℕ) → Data → List (List ℕ)
field_strings_of names document = texts_within names false document
