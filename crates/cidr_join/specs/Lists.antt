-- The lists of a run: all are read, and then their lines are taken in turn.
use Rattle.std.specs.Prelude.{◌≡◌, ◌≤◌, ◌⊎◌, ◌==◌, ◌&&◌, ℕ, Bool, not, List, [], ◌∷◌, ◌++◌, length, if◌then◌else◌}
use Rattle.std.specs.List.{list_any, slice_split}
use Rattle.lists.specs.Bytes.{IsAllOf, BytesStop}
use Rattle.lists.specs.KnownLists.{KnownLists}
use Rattle.lists.specs.Stopped.{ends_with_feed}
use Rattle.lists.specs.declared.bytes.BytesFault.{BytesFault}
use Rattle.lists.specs.declared.bytes.BytesFault.TheVariants as bytes
use Rattle.log_programs.specs.Rows as rows
use Rattle.options.specs.Given.{is_given}
use Rattle.options.specs.declared.items.Item.{Item}
use Rattle.options.specs.declared.items.Item.TheVariants as says
use Rattle.cidr_join.specs.Options as own
use Rattle.cidr_join.specs.declared.reading.ReadList.{ReadList}

-- the name of the list that an option reads, if it is `-f`
abbrev pub list_by : ℕ → List ℕ → List (List ℕ)
list_by row name = if row == rows.list then name ∷ [] else []

abbrev pub list_in : Item → List (List ℕ)
list_in (says.Value row name) = list_by row name
list_in (says.Joined row name word) = list_by row name
list_in item = []

-- the names of the lists, in order
abbrev pub lists_of : List Item → List (List ℕ)
lists_of [] = []
lists_of (item ∷ items) = list_in item ++ lists_of items

-- the bytes of a list that was read
abbrev pub list_text : ReadList → List ℕ
list_text list = list.text.items

-- the list with this name was read: these are all of its bytes, at most 1,073,741,824
abbrev pub IsRead : KnownLists → List ℕ → List ℕ → Type 0
IsRead known name text = IsAllOf known name text × (length text ≤ 1073741824)

-- the lists with these names were read, in turn
abbrev pub AreRead : KnownLists → List (List ℕ) → List (List ℕ) → Type 0
AreRead known [] texts = texts ≡ []
AreRead known (name ∷ names) texts = (text : List ℕ) × (others : List (List ℕ)) × IsRead known name text
    × AreRead known names others × (texts ≡ text ∷ others)

-- the list with this name was not read: it was not opened, a read of it failed, or it has more than 1,073,741,824 bytes
abbrev pub UnreadBy : KnownLists → List ℕ → BytesFault → Type 0
UnreadBy known name (bytes.Open cause) = BytesStop known name 1073741824 (bytes.Open cause)
UnreadBy known name bytes.Read = BytesStop known name 1073741824 bytes.Read
UnreadBy known name bytes.Length = BytesStop known name 1073741824 bytes.Length
UnreadBy known name bytes.OutOfMemory = ⊥

-- one of the lists with these names was not read
abbrev pub NotRead : KnownLists → List (List ℕ) → Type 0
NotRead known [] = ⊥
NotRead known (name ∷ names) = ((fault : BytesFault) × UnreadBy known name fault) ⊎ NotRead known names

-- a list does not end with a line feed
abbrev pub lacks_feed : List ℕ → Bool
lacks_feed text = not (ends_with_feed text)

-- the options ask for whole lists, and one of these does not end with a line feed
abbrev pub are_cut : List Item → List (List ℕ) → Bool
are_cut items texts = is_given items own.whole && list_any lacks_feed texts

-- the lines of these lists, one list after another
abbrev pub lines_of : List (List ℕ) → List (List ℕ)
lines_of [] = []
lines_of (text ∷ texts) = slice_split (λ b. b == 10) text ++ lines_of texts
