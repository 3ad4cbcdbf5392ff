-- The formats of lists, and the result of reading one list.
use Rattle.std.specs.Prelude.{◌≡◌, ℕ, true, List, Option, None, Some}
use Rattle.std.specs.Str.Lines.{lines}
use Rattle.lists.specs.Documents.{ReadsDocument, StopsAtDocument}
use Rattle.lists.specs.KnownLists.{KnownLists}
use Rattle.lists.specs.Lists.{ReadLists, TakesLines, at_list}
use Rattle.lists.specs.Reading.{ReadsList, StopsAt, StopsAtText}
use Rattle.lists.specs.Refusals.{Refused}
use Rattle.lists.specs.declared.chosen.Strings.{Strings}
use Rattle.lists.specs.declared.chosen.Strings.TheVariants.{LookingLikeEntries, All, OfFields}
use Rattle.lists.specs.Rules.{lenient}
use Rattle.lists.specs.declared.named.ReadFault.{ReadFault}
use Rattle.lists.specs.declared.rules.Rules.{Rules}
use Rattle.cidr_merge.specs.NamedLists.{text_in}
use Rattle.cidr_merge.specs.declared.shapes.Shape.{Shape}
use Rattle.cidr_merge.specs.declared.shapes.Shape.TheVariants.{Lines, Json, StrictJson, Fields, StrictFields}

-- what is known of the lists, the names of the fields of JSON whose strings are read, and the format of the lists
pub record Source : Type 1 where
  pub known : KnownLists
  pub fields : List (List ℕ)
  pub shape : Shape

abbrev pub source : KnownLists → List (List ℕ) → Shape → Source
source known fields shape = record { known = known; fields = fields; shape = shape }

-- the rules of lists of this format
abbrev pub rules_of : Shape → Rules
rules_of (Lines rules) = rules
rules_of Json = lenient
rules_of StrictJson = record lenient { refuses_host_bits = true }
rules_of Fields = lenient
rules_of StrictFields = record lenient { refuses_host_bits = true }

-- the strings that are taken of JSON documents, if the format has them
abbrev pub strings_in : Shape → List (List ℕ) → Option Strings
strings_in (Lines rules) fields = None
strings_in Json fields = Some LookingLikeEntries
strings_in StrictJson fields = Some All
strings_in Fields fields = Some (OfFields fields)
strings_in StrictFields fields = Some (OfFields fields)

-- the list of this name and number is read: its lines, or these strings of its JSON documents
abbrev pub ReadsFile : Option Strings → KnownLists → ℕ → List ℕ → ReadLists → ReadLists → Type 0
ReadsFile None known number name before after = ReadsList known number name before after
ReadsFile (Some strings) known number name before after = ReadsDocument known strings number name before after

abbrev pub ReadsBy : Source → ℕ → List ℕ → ReadLists → ReadLists → Type 0
ReadsBy from number name before after =
    ReadsFile (strings_in from.shape from.fields) from.known number name before after

-- of a TEXT the lines are taken, whatever the shape of FILEs
abbrev pub ReadsAs : Option (List ℕ) → Source → ℕ → List ℕ → ReadLists → ReadLists → Type 0
ReadsAs (Some text) source number name before after = TakesLines (at_list before number) (lines text) after
ReadsAs None source number name before after = ReadsBy source number name before after

abbrev pub ReadsOne : Source → ℕ → List ℕ → ReadLists → ReadLists → Type 0
ReadsOne source number name before after = ReadsAs (text_in name) source number name before after

-- the reading stops at this list
abbrev pub StopsFile : Option Strings → KnownLists → ℕ → List ℕ → ReadLists → ReadFault → Refused → Type 0
StopsFile None known number name before fault refused = StopsAt known number name before fault refused
StopsFile (Some strings) known number name before fault refused =
    (after : ReadLists) × StopsAtDocument known strings number name before fault after × (refused ≡ after.refused)

abbrev pub StopsBy : Source → ℕ → List ℕ → ReadLists → ReadFault → Refused → Type 0
StopsBy from number name before fault refused =
    StopsFile (strings_in from.shape from.fields) from.known number name before fault refused

abbrev pub StopsAs : Option (List ℕ) → Source → ℕ → List ℕ → ReadLists → ReadFault → Refused → Type 0
StopsAs (Some text) source number name before fault refused = StopsAtText number text before fault refused
StopsAs None source number name before fault refused = StopsBy source number name before fault refused

abbrev pub StopsOne : Source → ℕ → List ℕ → ReadLists → ReadFault → Refused → Type 0
StopsOne source number name before fault refused =
    StopsAs (text_in name) source number name before fault refused
