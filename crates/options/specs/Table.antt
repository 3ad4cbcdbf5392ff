-- Tables of options.
use Rattle.std.specs.Prelude.{◌≡◌, ℕ, ◌==◌, ◌&&◌, Bool, true, false, List, [], ◌∷◌, Option, None, Some, map, slice_get}
use Rattle.std.specs.Prelude.{bytes_eq}
use Rattle.std.specs.List.{position}
use Rattle.options.specs.declared.table.Kind.{Kind}
use Rattle.options.specs.declared.table.Kind.TheVariants as kinds
use Rattle.options.specs.declared.table.Pair.{Pair}
use Rattle.options.specs.declared.table.Row.{Row}
use Rattle.options.specs.declared.table.Table.{Table}

-- an option of this kind takes a value
abbrev pub takes_value : Kind → Bool
takes_value kinds.Flag = false
takes_value kinds.Alone = false
takes_value kind = true

-- the kind of a row, or that of an option without a value if there is no row
abbrev pub kind_of : Option Row → Kind
kind_of None = kinds.Flag
kind_of (Some row) = row.kind

-- the kind of the row at this index, or that of an option without a value if there is no such row
abbrev pub kind_at : List Row → ℕ → Kind
kind_at rows row = kind_of (slice_get rows row)

-- the option has a letter, and it is this one
abbrev pub is_letter : ℕ → Option ℕ → Bool
is_letter letter None = false
is_letter letter (Some one) = one == letter

-- this is the letter of the row's option
abbrev pub has_letter : ℕ → Row → Bool
has_letter letter row = is_letter letter row.letter

-- this is the long name of the row's option
abbrev pub has_name : List ℕ → Row → Bool
has_name name row = bytes_eq row.name.now name

-- the index of the first row with this letter
abbrev pub lettered : ℕ → List Row → Option ℕ
lettered letter rows = position (has_letter letter) rows

-- the index of the first row with this long name
abbrev pub named : List ℕ → List Row → Option ℕ
named name rows = position (has_name name) rows

-- the index of the first row with this long name whose value may follow the name after `=`
abbrev pub joined : List ℕ → List Row → Option ℕ
joined name rows = position (λ row. row.joins && has_name name row) rows

-- ---- a table, as it is said in definitions

-- an option as definitions state it: its letter, its long name (either may be missing), the kind of its value, and
-- whether the value may follow the long name after `=`
pub record Entry : Type 0 where
  pub letter : List ℕ
  pub name : List ℕ
  pub kind : Kind
  pub joins : Bool

-- an option without a value, by its letter
abbrev pub flag : List ℕ → Entry
flag letter = record { letter = letter; name = []; kind = kinds.Flag; joins = false }

-- an option without a value, by its long name
abbrev pub long_flag : List ℕ → Entry
long_flag name = record { letter = []; name = name; kind = kinds.Flag; joins = false }

-- an option that must be the only argument, by its long name
abbrev pub alone : List ℕ → Entry
alone name = record { letter = []; name = name; kind = kinds.Alone; joins = false }

-- an option with a value of this kind, by its letter
abbrev pub valued : List ℕ → Kind → Entry
valued letter kind = record { letter = letter; name = []; kind = kind; joins = false }

-- an option with a value of this kind, by its long name, and whether the value may follow the name after `=`
abbrev pub long : List ℕ → Kind → Bool → Entry
long name kind joins = record { letter = []; name = name; kind = kind; joins = joins }

-- a letter as a text, which is empty if there is no letter
abbrev pub letter_text : Option ℕ → List ℕ
letter_text None = []
letter_text (Some letter) = letter ∷ []

-- the option of a row of the table, as definitions state it
abbrev pub entry_of : Row → Entry
entry_of row = record {
  letter = letter_text row.letter;
  name = row.name.now;
  kind = row.kind;
  joins = row.joins;
}

-- a pair of the table, as definitions state it: the indices of the two rows
abbrev pub rows_of_pair : Pair → ℕ × ℕ
rows_of_pair pair = (pair.first, pair.second)

-- the table has exactly these options, these pairs of options that do not go together, and these options of which one
-- is needed
pub record IsTable (table : Table) (entries : List Entry) (pairs : List (ℕ × ℕ)) (needs : List ℕ) : Type 0 where
  pub has_options : map entry_of table.rows.now ≡ entries
  pub has_pairs : map rows_of_pair table.pairs.now ≡ pairs
  pub has_needs : table.needs.now ≡ needs
