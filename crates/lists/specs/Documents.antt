-- JSON documents that are read as lists: their strings, and what is taken of them.
use Rattle.std.specs.Prelude.{◌≡◌, ◌⊎◌, ◌||◌, ◌<◌, ◌≤◌, ℕ, Bool, true, false, IsUtf8, List, [], ◌∷◌, ◌++◌, length}
use Rattle.std.specs.Prelude.{Option, None, Some, if◌then◌else◌}
use Rattle.std.specs.Prelude.{Result, Ok, Err}
use Rattle.serde_json.specs.Data.{Data, null, boolean, number, string, array, object, Items, no_items, item, Members}
use Rattle.serde_json.specs.Data.{no_members, member}
use Rattle.lines.specs.Beginnings.{asked}
use Rattle.lists.specs.Encodings.{encoding_of}
use Rattle.lists.specs.Entries.{ReadsText}
use Rattle.lists.specs.Fields.{field_strings_of, first_lacking}
use Rattle.lists.specs.JsonTexts.{documents_of}
use Rattle.lists.specs.KnownLists.{KnownLists}
use Rattle.lists.specs.Lists.{ReadLists, at_list, at_next_line, refusing, TakesAllowed}
use Rattle.lists.specs.Looks.{looks_like_entry}
use Rattle.lists.specs.declared.chosen.Strings.{Strings}
use Rattle.lists.specs.declared.chosen.Strings.TheVariants.{LookingLikeEntries, All, OfFields}
use Rattle.lists.specs.declared.entry.Entry.{Entry}
use Rattle.lists.specs.declared.entry.EntryFault.{EntryFault}
use Rattle.lists.specs.declared.fault.LineFault.{LineFault}
use Rattle.lists.specs.declared.fault.LineFault.TheVariants as faults
use Rattle.lists.specs.declared.named.ReadFault.{ReadFault}
use Rattle.lists.specs.declared.named.ReadFault.TheVariants.{Open, Read, Length, NotJson, Cut, OutOfMemory, NoField}

-- the strings of a JSON value, at any depth and in their order: a string itself, those of the elements of an array, and
-- those of the values of an object, but not its keys
abbrev mutual
  pub strings_of : Data → List (List ℕ)
  strings_of null = []
  strings_of (boolean b) = []
  strings_of (number n) = []
  strings_of (string text) = text ∷ []
  strings_of (array values) = strings_of_items values
  strings_of (object members) = strings_of_members members

  pub strings_of_items : Items → List (List ℕ)
  strings_of_items no_items = []
  strings_of_items (item value values) = strings_of value ++ strings_of_items values

  pub strings_of_members : Members → List (List ℕ)
  strings_of_members no_members = []
  strings_of_members (member key value members) = strings_of value ++ strings_of_members members

-- a string is refused for this reason if the reading is strict or it looks like an entry, and else passed over
abbrev pub passing : Bool → ReadLists → List ℕ → LineFault → ReadLists
passing strict before text fault = if strict || looks_like_entry text then refusing before fault else before

-- what a string says is taken: its entry, or, if it names none, a refusal or nothing
abbrev pub TakesText : Bool → ReadLists → List ℕ → Result Entry EntryFault → ReadLists → Type 0
TakesText strict before text (Ok entry) after = TakesAllowed before entry after
TakesText strict before text (Err fault) after = after ≡ passing strict before text (faults.Entry fault)

-- the next string is taken; one of more than 1,024 bytes (`None`) is too long
abbrev pub TakesNext : Bool → ReadLists → List ℕ → Option (List ℕ) → ReadLists → Type 0
TakesNext strict before text None after = after ≡ passing strict before text faults.Length
TakesNext strict before text (Some short) after = (reading : Result Entry EntryFault) × ReadsText short reading
    × TakesText strict before short reading after

-- a string is taken and counted as a line is, unless memory has run out, after which nothing changes
abbrev pub TakesString : Bool → ReadLists → List ℕ → ReadLists → Type 0
TakesString strict before text after = ((before.is_out_of_memory ≡ true) × (after ≡ before))
    ⊎ ((before.is_out_of_memory ≡ false) × TakesNext strict (at_next_line before) text (asked 1024 text) after)

-- these strings are taken, one after another
abbrev pub TakesStrings : Bool → ReadLists → List (List ℕ) → ReadLists → Type 0
TakesStrings strict before [] after = after ≡ before
TakesStrings strict before (text ∷ texts) after = (between : ReadLists) × TakesString strict before text between
    × TakesStrings strict between texts after

-- the strings of a document that are taken
abbrev pub strings_by : Strings → Data → List (List ℕ)
strings_by LookingLikeEntries document = strings_of document
strings_by All document = strings_of document
strings_by (OfFields names) document = field_strings_of names document

-- those of documents, one after another
abbrev pub strings_of_all : Strings → List Data → List (List ℕ)
strings_of_all strings [] = []
strings_of_all strings (document ∷ documents) = strings_by strings document ++ strings_of_all strings documents

-- each string that is taken has to be an entry, also one that does not look like one
abbrev pub is_strict : Strings → Bool
is_strict LookingLikeEntries = false
is_strict All = true
is_strict (OfFields names) = true

-- if only fields are taken, each of the names has to be one of a member of the documents: the place of the first that is
-- not, among the names
abbrev pub lacking : Strings → List Data → Option ℕ
lacking LookingLikeEntries documents = None
lacking All documents = None
lacking (OfFields names) documents = first_lacking names documents

-- the bytes are these documents: there are at most 1,073,741,824, in UTF-8, and they are JSON, or lines of JSON, of at
-- most 127 levels
abbrev pub AreDocuments : List ℕ → List Data → Type 0
AreDocuments bytes documents = (length bytes ≤ 1073741824) × IsUtf8 bytes × (documents_of bytes ≡ Some documents)

-- there are at most 1,073,741,824 bytes, and they are not UTF-8, or neither JSON nor lines of JSON of at most 127 levels
abbrev pub AreNoDocuments : List ℕ → Type 0
AreNoDocuments bytes = (length bytes ≤ 1073741824) × (IsUtf8 bytes → documents_of bytes ≡ None)

-- the bytes are documents, which have each of the fields if only these are taken, and their strings are taken, one after
-- another
abbrev pub TakesDocuments : Strings → ReadLists → List ℕ → ReadLists → Type 0
TakesDocuments strings before bytes after = (documents : List Data) × AreDocuments bytes documents
    × (lacking strings documents ≡ None) × TakesStrings (is_strict strings) before (strings_of_all strings documents) after

-- the bytes are documents, and the name at this place is the first of which they have no field
abbrev pub LackField : Strings → ℕ → List ℕ → Type 0
LackField strings name bytes = (documents : List Data) × AreDocuments bytes documents
    × (lacking strings documents ≡ Some name)

-- the document of this name was opened, and, if its bytes are known, its strings are taken; refused strings name it by
-- the number `list`
abbrev pub ReadsDocument : KnownLists → Strings → ℕ → List ℕ → ReadLists → ReadLists → Type 0
ReadsDocument known strings list name before after =
    known.may_open name true × ((input : List ℕ) → known.bytes_of name ≡ Some input
    → TakesDocuments strings (at_list before list) input after)

-- the document of this name was opened, and, if its bytes are known, there is at least one, for which there was no
-- memory
abbrev pub LacksMemory : KnownLists → List ℕ → Type 0
LacksMemory known name = known.may_open name true
    × ((input : List ℕ) → known.bytes_of name ≡ Some input → 0 < length input)

-- the reading stops at the document of this name and number for this reason, and leaves the reader as `after`, which is
-- unchanged unless memory ran out for an entry
abbrev pub StopsAtDocument : KnownLists → Strings → ℕ → List ℕ → ReadLists → ReadFault → ReadLists → Type 0
-- the document was not opened, for this cause
StopsAtDocument known strings list name before (Open place cause) after = (place ≡ list) × known.may_open name false
    × known.may_miss name cause × (after ≡ before)
-- a read of the document failed
StopsAtDocument known strings list name before (Read place) after = (place ≡ list) × known.may_open name true
    × known.may_fail name × (after ≡ before)
-- this fault does not occur: a document may have any end
StopsAtDocument known strings list name before (Cut place) after = ⊥
-- the document has more than 1,073,741,824 bytes
StopsAtDocument known strings list name before (Length place) after =
    (place ≡ list) × known.may_open name true
    × ((input : List ℕ) → known.bytes_of name ≡ Some input → 1073741824 < length input) × (after ≡ before)
-- the document has at most 1,073,741,824 bytes, and they are not UTF-8, or neither JSON nor lines of JSON of at most 127
-- levels; the encoding is what they are instead of plain text
StopsAtDocument known strings list name before (NotJson place line encoding) after =
    (place ≡ list) × known.may_open name true
    × ((input : List ℕ) → known.bytes_of name ≡ Some input → AreNoDocuments input × (encoding ≡ encoding_of input))
    × (after ≡ before)
-- only fields are taken, and the document does not have the one of the name at `field`
StopsAtDocument known strings list name before (NoField place field) after =
    (place ≡ list) × known.may_open name true
    × ((input : List ℕ) → known.bytes_of name ≡ Some input → LackField strings field input) × (after ≡ before)
-- there was no memory for the document, or memory ran out for an entry of it
StopsAtDocument known strings list name before OutOfMemory after =
    (LacksMemory known name × (after ≡ before))
    ⊎ (ReadsDocument known strings list name before after × (after.is_out_of_memory ≡ true))
