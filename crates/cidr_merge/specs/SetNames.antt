-- The families that a result has, the names of the sets that an export fills, their limit, the texts around each line,
-- the names of fields of JSON, and numbers of hosts.
use Rattle.std.specs.Prelude.{ℕ, ◌==◌, ◌&&◌, ◌||◌, Bool, false, not, List, [], ◌∷◌, ◌++◌, length, nat_lt, nat_le}
use Rattle.std.specs.Prelude.{codes, if◌then◌else◌, Option, None, Some}
use Rattle.std.specs.List.{concat, list_all}
use Rattle.options.specs.Given.{is_given, value_of}
use Rattle.options.specs.Values.{number_in}
use Rattle.options.specs.declared.items.Item.{Item}
use Rattle.cidr_merge.specs.FieldNames.{fields_of}
use Rattle.cidr_merge.specs.Families.{only_of}
use Rattle.cidr_merge.specs.Options as own
use Rattle.cidr_merge.specs.declared.exports.Version.{Version}

-- the family that is looked at alone, if not both are, the table of nftables, the beginning of the names of both sets,
-- the number of elements that a set of ipset is made for, the texts before and after each line, the names of the
-- fields whose strings are read, and the numbers of hosts of networks, with commas between them
pub record Names : Type 0 where
  pub only : Option Version
  pub table : List ℕ
  pub set : List ℕ
  pub limit : List ℕ
  pub before : List ℕ
  pub after : List ℕ
  pub fields : List (List ℕ)
  pub hosts : List ℕ

-- a text as a name; empty if it has more than 22 bytes
abbrev pub name_in : List ℕ → List ℕ
name_in text = if nat_le (length text) 22 then text else []

-- the name that the option of a row gives, else `cidr_merge`
abbrev pub name_by : ℕ → List Item → List ℕ
name_by row items = if is_given items row then name_in (value_of items row) else name_in (codes "cidr_merge")

-- the number that `--maxelem` gives, else the greatest
abbrev pub limit_by : List Item → List ℕ
limit_by items = if is_given items own.maxelem then value_of items own.maxelem else codes "4294967295"

abbrev pub names_of : List Item → Names
names_of items = record {
  only = only_of items;
  table = name_by own.table items;
  set = name_by own.set items;
  limit = limit_by items;
  before = value_of items own.before;
  after = value_of items own.after;
  fields = fields_of items;
  hosts = value_of items own.hosts;
}

-- a line of these texts, with the texts before and after each line
abbrev pub line_of : Names → List (List ℕ) → List ℕ
line_of names texts = concat (names.before ∷ texts ++ names.after ∷ codes "\n" ∷ [])

-- the names and texts if no option gives any
abbrev pub usual_names : Names
usual_names = names_of []

-- a name: 1 to 22 ASCII letters, digits, `_`, `-` and `.`, the first of which is a letter
abbrev pub is_letter : ℕ → Bool
is_letter byte = (nat_le 97 byte && nat_le byte 122) || (nat_le 65 byte && nat_le byte 90)

abbrev pub is_name_byte : ℕ → Bool
is_name_byte byte =
    (((is_letter byte || (nat_le 48 byte && nat_le byte 57)) || byte == 95) || byte == 45) || byte == 46

abbrev pub is_set_name : List ℕ → Bool
is_set_name [] = false
is_set_name (first ∷ others) = (list_all is_name_byte others && is_letter first) && nat_lt (length others) 22

-- a number of elements: 1 to 4,294,967,295, in decimal digits of which the first is not 0 (byte 48)
abbrev pub is_within : Option ℕ → Bool
is_within None = false
is_within (Some number) = nat_le number 4294967295

abbrev pub is_limit : List ℕ → Bool
is_limit [] = false
is_limit (first ∷ others) = not (first == 48) && is_within (number_in (first ∷ others))
