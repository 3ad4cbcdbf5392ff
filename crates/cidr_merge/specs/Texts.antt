-- The bytes of whole lists.
use Rattle.std.specs.Prelude.{◌≡◌, ℕ, Bool, true, false, List, [], ◌∷◌, ◌++◌, Option, None, Some, String}
use Rattle.std.specs.String.{string_bytes}
use Rattle.lists.specs.Bytes.{IsAllOf}
use Rattle.lists.specs.KnownLists.{KnownLists}
use Rattle.lists.specs.Stopped.{EndsWithFeed}
use Rattle.cidr_merge.specs.NamedLists.{text_in}
use Rattle.lists.specs.declared.named.ReadFault.{ReadFault}
use Rattle.lists.specs.declared.named.ReadFault.TheVariants.{Open, Read, Length, NotJson, NoField, Cut}
use Rattle.lists.specs.declared.named.ReadFault.TheVariants.{OutOfMemory}

-- the lists that can be read, and whether a FILE has to end with a line feed
pub record Whole : Type 1 where
  pub known : KnownLists
  pub wanted : Bool

abbrev pub whole : KnownLists → Bool → Whole
whole known wanted = record { known = known; wanted = wanted }

-- these are the bytes of the list of this name: the TEXT itself, or all bytes of the FILE, which ends as it has to
abbrev pub IsTextAs : Option (List ℕ) → Whole → List ℕ → List ℕ → Type 0
IsTextAs (Some given) from name text = text ≡ given
IsTextAs None from name text = IsAllOf from.known name text × (from.wanted ≡ true → EndsWithFeed text)

abbrev pub IsText : Whole → List ℕ → List ℕ → Type 0
IsText from name text = IsTextAs (text_in name) from name text

-- these are the bytes of the lists of these names, in order
abbrev pub AreTexts : {Z : Type 0} → Whole → List (String Z) → List (List ℕ) → Type 0
AreTexts from [] [] = Unit {0}
AreTexts from (name ∷ names) (text ∷ texts) =
    IsText from (string_bytes name) text × AreTexts from names texts
AreTexts from [] (text ∷ texts) = ⊥
AreTexts from (name ∷ names) [] = ⊥

-- the FILE of this name cannot be read to its end, or does not end as it has to
abbrev pub FileStops : Whole → List ℕ → ReadFault → Type 0
-- it is not opened, for this cause
FileStops from name (Open place cause) = from.known.may_open name false × from.known.may_miss name cause
-- a read of it fails
FileStops from name (Read place) = from.known.may_open name true × from.known.may_fail name
-- it has to end with a line feed, and does not
FileStops from name (Cut place) = from.known.may_open name true × (from.wanted ≡ true)
    × ((input : List ℕ) → from.known.bytes_of name ≡ Some input → ¬ (EndsWithFeed input))
-- it may have any length and any text
FileStops from name (Length place) = ⊥
FileStops from name (NotJson place line encoding) = ⊥
FileStops from name (NoField place field) = ⊥
-- memory runs out for it
FileStops from name OutOfMemory = Unit {0}

-- of a TEXT, only memory runs out
abbrev pub StopsAs : Option (List ℕ) → Whole → List ℕ → ReadFault → Type 0
StopsAs (Some given) from name fault = fault ≡ OutOfMemory
StopsAs None from name fault = FileStops from name fault

abbrev pub TextStops : Whole → List ℕ → ReadFault → Type 0
TextStops from name fault = StopsAs (text_in name) from name fault

-- the lists of these names are read up to one that cannot be read
pub record TextsStop {Z : Type 0} (from : Whole) (names : List (String Z)) (fault : ReadFault) : Type 0 where
  pub before : List (String Z)
  pub name : String Z
  pub behind : List (String Z)
  pub texts : List (List ℕ)
  pub cut : names ≡ before ++ name ∷ behind
  pub reads : AreTexts from before texts
  pub stops : TextStops from (string_bytes name) fault
