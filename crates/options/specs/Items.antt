-- What the words of a command line say, as a list of items.
use Rattle.std.specs.Prelude.{ℕ, ◌==◌, ◌||◌, Bool, true, false, not, List, [], ◌∷◌, ◌++◌, Option, None, Some}
use Rattle.std.specs.Prelude.{length, nat_lt, take, drop, if◌then◌else◌, codes, bytes_eq, String}
use Rattle.std.specs.List.{position_or_len, before_first, after_first}
use Rattle.std.specs.String.{string_bytes}
use Rattle.options.specs.Table.{takes_value, kind_at, lettered, named, joined}
use Rattle.options.specs.declared.items.Item.{Item}
use Rattle.options.specs.declared.items.Item.TheVariants as says
use Rattle.options.specs.declared.items.Mode.{Mode}
use Rattle.options.specs.declared.items.Mode.TheVariants as modes
use Rattle.options.specs.declared.table.Row.{Row}

-- the second text begins with the first
abbrev pub begins : List ℕ → List ℕ → Bool
begins first text = bytes_eq (take (length first) text) first

-- the word, where an option may be, is a FILE: it is `-`, or does not begin with `-`
abbrev pub is_plain : List ℕ → Bool
is_plain word = bytes_eq word (codes "-") || not (begins (codes "-") word)

-- a text less the `=` (byte 61) that it begins with, if more follows
abbrev pub behind_sign : List ℕ → List ℕ
behind_sign [] = []
behind_sign (byte ∷ []) = byte ∷ []
behind_sign (byte ∷ next ∷ text) = if byte == 61 then next ∷ text else byte ∷ next ∷ text

-- the item of an option that takes a value, with what follows its letter in the word as the value, less a `=` before
-- it; no item if nothing follows, since the value is then the next word
abbrev pub value_items : ℕ → Bool → List ℕ → List ℕ → List Item
value_items row first word [] = []
value_items row true word (byte ∷ text) = says.Joined row (behind_sign (byte ∷ text)) word ∷ []
value_items row false word (byte ∷ text) = says.Value row (behind_sign (byte ∷ text)) ∷ []

-- the items of a letter and of what follows it in the word: an unknown word if it is no option's letter; an option and
-- its value; or an option without a value, and then the items `others`
abbrev pub letter_items : List Row → Bool → List ℕ → List ℕ → Option ℕ → List Item → List Item
letter_items rows first word text None others = says.Unknown word ∷ []
letter_items rows first word text (Some row) others =
    if takes_value (kind_at rows row) then value_items row first word text else says.Flag row ∷ others

-- the items of a text of letters in a word; each letter must be ASCII, and only the last may take a value; `first` says
-- whether the text begins with the first letter of the word
abbrev pub letters : List Row → Bool → List ℕ → List ℕ → List Item
letters rows first word [] = []
letters rows first word (letter ∷ text) =
    if nat_lt letter 128 then letter_items rows first word text (lettered letter rows) (letters rows false word text)
    else says.Unknown word ∷ []

-- where the next word is after an option that takes a value: it is that value if nothing follows the letter
abbrev pub opened : ℕ → List ℕ → Mode
opened row [] = modes.Value row
opened row (byte ∷ text) = modes.Free

-- where the next word is after a letter and what follows it: an option with a value decides by itself, and one
-- without leaves it to the letters that follow (`next`)
abbrev pub letter_mode : List Row → List ℕ → Option ℕ → Mode → Mode
letter_mode rows text None next = modes.Free
letter_mode rows text (Some row) next = if takes_value (kind_at rows row) then opened row text else next

-- where the next word is after a text of letters
abbrev pub letters_mode : List Row → List ℕ → Mode
letters_mode rows [] = modes.Free
letters_mode rows (letter ∷ text) = if nat_lt letter 128
    then letter_mode rows text (lettered letter rows) (letters_mode rows text) else modes.Free

-- the items of a word that begins with `--`: a long name, a long name with a value after `=` (byte 61), or an unknown
-- word; no item yet if the value is the next word
abbrev pub name_items : List Row → List ℕ → Option ℕ → Option ℕ → List Item
name_items rows word (Some row) other = if takes_value (kind_at rows row) then [] else says.Flag row ∷ []
name_items rows word None (Some row) = says.Joined row (after_first (λ byte. byte == 61) word) word ∷ []
name_items rows word None None = says.Unknown word ∷ []

-- the row of the long name that is before the first `=` (byte 61) of the word, if a value may follow it there
abbrev pub joined_name : List Row → List ℕ → Option ℕ
joined_name rows word =
    if nat_lt (position_or_len (λ byte. byte == 61) word) (length word)
    then joined (before_first (λ byte. byte == 61) word) rows else None

-- where the next word is after a word that begins with `--`
abbrev pub name_mode : List Row → Option ℕ → Mode
name_mode rows None = modes.Free
name_mode rows (Some row) = if takes_value (kind_at rows row) then modes.Value row else modes.Free

-- the items of a word where an option may be
abbrev pub free_items : List Row → List ℕ → List Item
free_items rows word =
    if is_plain word then says.File word ∷ []
    else if bytes_eq word (codes "--") then []
    else if begins (codes "--") word then name_items rows word (named word rows) (joined_name rows word)
    else letters rows true word (drop 1 word)

-- where the next word is after a word where an option may be
abbrev pub free_mode : List Row → List ℕ → Mode
free_mode rows word =
    if is_plain word then modes.Free
    else if bytes_eq word (codes "--") then modes.Files
    else if begins (codes "--") word then name_mode rows (named word rows)
    else letters_mode rows (drop 1 word)

-- the items of a word, by where it is
abbrev pub word_items : List Row → Mode → List ℕ → List Item
word_items rows modes.Free word = free_items rows word
word_items rows (modes.Value row) word = says.Value row word ∷ []
word_items rows modes.Files word = says.File word ∷ []

-- where the next word is after a word, by where that is
abbrev pub next_mode : List Row → Mode → List ℕ → Mode
next_mode rows modes.Free word = free_mode rows word
next_mode rows (modes.Value row) word = modes.Free
next_mode rows modes.Files word = modes.Files

-- the items after the last word: an option that lacks its value, if its value was to be the next word
abbrev pub end_items : Mode → List Item
end_items modes.Free = []
end_items (modes.Value row) = says.Lacks row ∷ []
end_items modes.Files = []

-- the items that these words say, by where the first of them is
abbrev pub items_of : {Z : Type 0} → List Row → Mode → List (String Z) → List Item
items_of rows mode [] = end_items mode
items_of rows mode (word ∷ words) = word_items rows mode (string_bytes word)
    ++ items_of rows (next_mode rows mode (string_bytes word)) words
