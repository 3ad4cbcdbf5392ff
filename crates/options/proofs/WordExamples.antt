-- Words at which a misreading of the definitions would show.
use Rattle.options.proofs.Words.{◌≡◌, List, [], ◌∷◌, ◌++◌, map, Bool, true, false, refl, codes, String, list_all, string_bytes, is_right_option, are_right_by, is_given, times, value_of, files_of, inputs_of, free_items, free_mode, items_of, Entry, flag, long_flag, valued, long, Item, Row}
use Rattle.options.specs.declared.items.Item.TheVariants as says
use Rattle.options.specs.declared.items.Mode.TheVariants as modes
use Rattle.options.specs.declared.table.Kind.TheVariants as kinds
use Rattle.options.proofs.Tables.{rows_of, pairs_of}

-- `-v` and `-q`; `-n`, `--nth` and `--after` with a value, which may follow `--nth=`; `--all`; and `-f` with a file
abbrev entries : List Entry
entries = flag (codes "v") ∷ flag (codes "q") ∷ valued (codes "n") kinds.Number ∷ long (codes "--nth") kinds.Nth true
    ∷ long (codes "--after") kinds.Text false ∷ long_flag (codes "--all") ∷ valued (codes "f") kinds.File ∷ []

abbrev rows : List Row
rows = rows_of entries

-- ---- a word

pub letters : map (free_items rows) (codes "-vq" ∷ codes "-n5" ∷ codes "-qn5" ∷ codes "-vqn" ∷ codes "-nq" ∷ [])
    ≡ (says.Flag 0 ∷ says.Flag 1 ∷ []) ∷ (says.Joined 2 (codes "5") (codes "-n5") ∷ [])
    ∷ (says.Flag 1 ∷ says.Value 2 (codes "5") ∷ []) ∷ (says.Flag 0 ∷ says.Flag 1 ∷ [])
    ∷ (says.Joined 2 (codes "q") (codes "-nq") ∷ []) ∷ []
letters = refl

-- a `=` before a value is none of it, but may be the whole value or follow
pub signs : map (free_items rows) (codes "-n=5" ∷ codes "-qn=5" ∷ codes "-n=" ∷ codes "-n==" ∷ codes "-n5=" ∷ [])
    ≡ (says.Joined 2 (codes "5") (codes "-n=5") ∷ []) ∷ (says.Flag 1 ∷ says.Value 2 (codes "5") ∷ [])
    ∷ (says.Joined 2 (codes "=") (codes "-n=") ∷ []) ∷ (says.Joined 2 (codes "=") (codes "-n==") ∷ [])
    ∷ (says.Joined 2 (codes "5=") (codes "-n5=") ∷ []) ∷ []
signs = refl

pub long_names :
    map (free_items rows) (codes "--all" ∷ codes "--nth" ∷ codes "--nth=5" ∷ codes "--nth=" ∷ codes "--nth=a=b" ∷ [])
    ≡ (says.Flag 5 ∷ []) ∷ [] ∷ (says.Joined 3 (codes "5") (codes "--nth=5") ∷ [])
    ∷ (says.Joined 3 [] (codes "--nth=") ∷ []) ∷ (says.Joined 3 (codes "a=b") (codes "--nth=a=b") ∷ []) ∷ []
long_names = refl

-- the first byte of `é` (195), a part of a name, more than a name, a value after a name that takes none there
pub no_options : map (free_items rows) (codes "-x" ∷ codes "-vxn5" ∷ (45 ∷ 118 ∷ 195 ∷ 169 ∷ []) ∷ codes "--al"
    ∷ codes "--all=" ∷ codes "--after=x" ∷ codes "---" ∷ codes "--n5" ∷ [])
    ≡ (says.Unknown (codes "-x") ∷ []) ∷ (says.Flag 0 ∷ says.Unknown (codes "-vxn5") ∷ [])
    ∷ (says.Flag 0 ∷ says.Unknown (45 ∷ 118 ∷ 195 ∷ 169 ∷ []) ∷ []) ∷ (says.Unknown (codes "--al") ∷ [])
    ∷ (says.Unknown (codes "--all=") ∷ []) ∷ (says.Unknown (codes "--after=x") ∷ [])
    ∷ (says.Unknown (codes "---") ∷ []) ∷ (says.Unknown (codes "--n5") ∷ []) ∷ []
no_options = refl

pub plain_words : map (free_items rows) (codes "-" ∷ codes "log" ∷ [] ∷ codes "--" ∷ [])
    ≡ (says.File (codes "-") ∷ []) ∷ (says.File (codes "log") ∷ []) ∷ (says.File [] ∷ []) ∷ [] ∷ []
plain_words = refl

pub next_words : map (free_mode rows) (codes "-qn" ∷ codes "-qn5" ∷ codes "-nq" ∷ codes "--nth" ∷ codes "--nth="
    ∷ codes "--all" ∷ codes "--" ∷ codes "-" ∷ codes "-vx" ∷ codes "--x" ∷ [])
    ≡ modes.Value 2 ∷ modes.Free ∷ modes.Free ∷ modes.Value 3 ∷ modes.Free ∷ modes.Free ∷ modes.Files ∷ modes.Free
    ∷ modes.Free ∷ modes.Free ∷ []
next_words = refl

-- ---- words

module _ {Z : Type 0} (first second third : String Z) where
  -- after `-qn` any word is the value, and a `-` after that is a FILE
  pub any_value : string_bytes first ≡ codes "-qn" → string_bytes third ≡ codes "-"
      → items_of rows modes.Free (first ∷ second ∷ third ∷ []) ≡ says.Flag 1 ∷ says.Value 2 (string_bytes second)
      ∷ says.File (codes "-") ∷ []
  any_value opens file = rw (opens, file) refl

  -- after `--` each word is a FILE
  pub any_files : string_bytes first ≡ codes "--"
      → items_of rows modes.Free (first ∷ second ∷ third ∷ []) ≡ says.File (string_bytes second)
      ∷ says.File (string_bytes third) ∷ []
  any_files dashes = rw dashes refl

  -- an option may be after a FILE, and lack its value
  pub no_value : string_bytes first ≡ codes "a" → string_bytes second ≡ codes "-n5" → string_bytes third ≡ codes "-vn"
      → items_of rows modes.Free (first ∷ second ∷ third ∷ [])
      ≡ says.File (codes "a") ∷ says.Joined 2 (codes "5") (codes "-n5") ∷ says.Flag 0 ∷ says.Lacks 2 ∷ []
  no_value file joined lacks = rw (file, joined, lacks) refl

-- ---- what is given

-- a value in the word of its option counts as one in the next word does
pub joined_values : map (λ word. value_of (free_items rows word) 2) (codes "-n5" ∷ codes "-qn5" ∷ codes "-n05"
    ∷ codes "-vqn" ∷ codes "-q" ∷ [])
    ≡ codes "5" ∷ codes "5" ∷ codes "05" ∷ [] ∷ [] ∷ []
joined_values = refl

pub joined_long_values : map (λ word. value_of (free_items rows word) 3) (codes "--nth=5" ∷ codes "--nth=last"
    ∷ codes "--nth=" ∷ codes "-n5" ∷ [])
    ≡ codes "5" ∷ codes "last" ∷ [] ∷ [] ∷ []
joined_long_values = refl

-- of several values of an option the last counts, however each is given
pub last_values : map (λ items. value_of items 2)
    ((says.Value 2 (codes "1") ∷ free_items rows (codes "-n5"))
    ∷ (free_items rows (codes "-n5") ++ says.Value 2 (codes "1") ∷ [])
    ∷ (free_items rows (codes "-n5") ++ free_items rows (codes "-qn7"))
    ∷ (free_items rows (codes "-n5") ++ says.Value 3 (codes "1") ∷ says.Lacks 2 ∷ []) ∷ [])
    ≡ codes "5" ∷ codes "1" ∷ codes "7" ∷ codes "5" ∷ []
last_values = refl

pub given : map (λ items. is_given items 2) (free_items rows (codes "-n5") ∷ free_items rows (codes "-qn5")
    ∷ (says.Lacks 2 ∷ []) ∷ (says.File (codes "-n5") ∷ []) ∷ (says.Value 3 (codes "2") ∷ []) ∷ [])
    ≡ true ∷ true ∷ true ∷ false ∷ false ∷ []
given = refl

pub counted : times (free_items rows (codes "-vqv") ++ says.File (codes "v") ∷ []) 0 ≡ 2
counted = refl

pub files_in_their_order : files_of (says.File (codes "b") ∷ says.Value 2 (codes "x") ∷ says.File (codes "a") ∷ [])
    ≡ codes "b" ∷ codes "a" ∷ []
files_in_their_order = refl

pub no_file_is_standard_input : map inputs_of ((says.Flag 0 ∷ []) ∷ (says.File (codes "a") ∷ []) ∷ [])
    ≡ (codes "-" ∷ []) ∷ (codes "a" ∷ []) ∷ []
no_file_is_standard_input = refl

-- ---- what is right

pub right_options : map (λ word. list_all (is_right_option rows) (free_items rows word)) (codes "-vqn5"
    ∷ codes "-nx" ∷ codes "--nth=2" ∷ codes "--nth=all" ∷ codes "-x" ∷ codes "-" ∷ [])
    ≡ true ∷ false ∷ true ∷ false ∷ false ∷ true ∷ []
right_options = refl

-- `-v` and `-q` exclude each other, `-n` is given once, and `-n` or `-f` is needed
abbrev are_right : List Item → Bool
are_right items = are_right_by rows (pairs_of ((0, 1) ∷ (2, 2) ∷ [])) (2 ∷ 6 ∷ []) items

pub right_lines : map are_right
    ((says.Value 2 (codes "5") ∷ []) ∷ (says.Value 6 (codes "a") ∷ says.Flag 0 ∷ says.Flag 0 ∷ [])
    ∷ (says.Value 6 (codes "-") ∷ says.File (codes "a") ∷ [])
    ∷ (says.Value 6 (codes "a") ∷ says.File (codes "-") ∷ []) ∷ []) ≡ true ∷ true ∷ true ∷ true ∷ []
right_lines = refl

-- a pair, an option twice, neither of those needed, a FILE without a name, a list without one, and standard input twice
pub wrong_lines : map are_right
    ((says.Value 2 (codes "5") ∷ says.Flag 1 ∷ says.Flag 0 ∷ [])
    ∷ (says.Value 2 (codes "5") ∷ says.Joined 2 (codes "5") (codes "-n5") ∷ []) ∷ (says.File (codes "a") ∷ [])
    ∷ (says.Value 2 (codes "5") ∷ says.File [] ∷ []) ∷ (says.Value 6 [] ∷ []) ∷ (says.Value 6 (codes "-") ∷ [])
    ∷ (says.Joined 6 (codes "-") (codes "-f-") ∷ says.File (codes "-") ∷ [])
    ∷ (says.Value 2 (codes "5") ∷ says.File (codes "-") ∷ says.File (codes "-") ∷ []) ∷ [])
    ≡ false ∷ false ∷ false ∷ false ∷ false ∷ false ∷ false ∷ false ∷ []
wrong_lines = refl
