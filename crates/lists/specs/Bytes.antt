-- The bytes of lists that are read as a whole.
use Rattle.std.specs.Prelude.{◌≡◌, ◌<◌, ℕ, true, false, List, length, Some}
use Rattle.lists.specs.KnownLists.{KnownLists}
use Rattle.lists.specs.declared.bytes.BytesFault.{BytesFault}
use Rattle.lists.specs.declared.bytes.BytesFault.TheVariants.{Open, Read, Length, OutOfMemory}

-- the list of this name was opened, and, if its bytes are known, these are all of them
abbrev pub IsAllOf : KnownLists → List ℕ → List ℕ → Type 0
IsAllOf known name bytes = known.may_open name true
    × ((input : List ℕ) → known.bytes_of name ≡ Some input → bytes ≡ input)

-- the list of this name was opened, and, if its bytes are known, there are more than `least`
abbrev pub HasMore : KnownLists → List ℕ → ℕ → Type 0
HasMore known name least = known.may_open name true
    × ((input : List ℕ) → known.bytes_of name ≡ Some input → least < length input)

-- the bytes of the list of this name, of at most `most`, were not read, for this reason
abbrev pub BytesStop : KnownLists → List ℕ → ℕ → BytesFault → Type 0
-- the list was not opened, for this cause
BytesStop known name most (Open cause) = known.may_open name false × known.may_miss name cause
-- a read of the list failed
BytesStop known name most Read = known.may_open name true × known.may_fail name
-- the list has more than `most` bytes
BytesStop known name most Length = HasMore known name most
-- the list has at least one byte, and there was no memory for it
BytesStop known name most OutOfMemory = HasMore known name 0
