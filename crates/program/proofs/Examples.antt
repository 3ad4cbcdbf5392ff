-- Values at which a misreading of the definitions would show. Each of these computes.
use Rattle.program.proofs.Words.{◌≡◌, ◌-◌, ◌^◌, ◌<◌, ℕ, List, ◌∷◌, ◌++◌, [], true, false, inl, inr, refl, ap, arith, map, String, None, Some, Ok, Err, if◌then◌else◌, bytes_eq, string_bytes, lines, ReadLists, at_list, TakesLines, Refused, KnownLists, end_of, ReadsList, StopsAt, StopsAtText, text_asked, shown, fault_of, is, is_only, begins_with, without_first, Cut, Open, Read, OutOfMemory, OpenFault}
use Rattle.std.specs.Prelude.{codes}
use Rattle.std.specs.declared.io.ErrorKind.TheVariants as kinds
use Rattle.lines.specs.declared.fault.RunFault.TheVariants as faults
use Rattle.lists.specs.declared.read.ListFault.TheVariants as unread
use Rattle.program.specs.declared.arguments.ArgumentsFault.TheVariants as arguments
use Rattle.program.specs.declared.log_fault.LogFault.TheVariants as logs
use Rattle.lists.specs.declared.opening.OpenFault.TheVariants as causes

-- ---- where the reading stops

-- a list that was read to its end is no fault, and one for which there was no memory is that, also if a read failed
pub a_list_is_read : (done : Unit {0}) → end_of (Ok done) 1 false ≡ Ok done
a_list_is_read done = refl

pub a_read_fails : end_of (Err (unread.Run faults.Read)) 1 false ≡ Err (Read 1)
a_read_fails = refl

pub no_memory : end_of (Err (unread.Run faults.Read)) 1 true ≡ Err OutOfMemory
no_memory = refl

-- a list that is cut is reported so, unless there was no memory
pub a_list_is_cut : (end_of (Err unread.Cut) 1 false ≡ Err (Cut 1)) × (end_of (Err unread.Cut) 1 true ≡ Err OutOfMemory)
a_list_is_cut = (refl, refl)

-- a list that is read was opened, and one that cannot be opened was not
pub what_is_read_was_opened : (known : KnownLists) (number : ℕ) (name : List ℕ) (before after : ReadLists)
    → ReadsList known number name before after → known.may_open name true
what_is_read_was_opened known number name before after h = h.0

pub what_is_not_opened : (known : KnownLists) (number place : ℕ) (name : List ℕ) (cause : OpenFault)
    (before : ReadLists) (refused : Refused) → StopsAt known number name before (Open place cause) refused
    → (place ≡ number) × known.may_open name false × known.may_miss name cause × (refused ≡ before.refused)
what_is_not_opened known number place name cause before refused h = h

-- a read that fails before any line was read leaves the refused lines of the lists before
pub a_read_that_fails_at_once : (known : KnownLists) (name : List ℕ) (before : ReadLists) → known.may_open name true
    → known.may_fail name → before.is_out_of_memory ≡ false
    → StopsAt known 1 name before (Read 1) before.refused
a_read_that_fails_at_once known name before opened fails memory =
    (refl, inl fails, at_list before 1, (opened, λ input e. ([], lines input, refl, refl)), memory, refl)

-- a list that is known to have a line, and of which no read fails, is not reported as one that cannot be read
pub what_fails : (known : KnownLists) (name : List ℕ) (before : ReadLists) (refused : Refused)
    → known.bytes_of name ≡ Some (codes "::1\n") → (known.may_fail name → ⊥)
    → StopsAt known 1 name before (Read 1) refused → ⊥
what_fails known name before refused has sound h = elim h.1 [
  | inl fails ↦ sound fails
  | inr many ↦ too_few (many (codes "::1\n") has)
] where
  too_few : 2 ^ 64 - 1 < 4 → ⊥
  too_few l = omega (arith, l)

-- memory alone stops the reading of a text, and then all its lines were taken before
pub a_text_is_read : (number place : ℕ) (text : List ℕ) (before : ReadLists) (refused : Refused)
    → StopsAtText number text before (Read place) refused → ⊥
a_text_is_read number place text before refused h = h

pub a_text_is_opened : (number place : ℕ) (cause : OpenFault) (text : List ℕ) (before : ReadLists) (refused : Refused)
    → StopsAtText number text before (Open place cause) refused → ⊥
a_text_is_opened number place cause text before refused h = h

pub memory_for_a_text : (number : ℕ) (text : List ℕ) (before : ReadLists) (refused : Refused)
    (stops : StopsAtText number text before OutOfMemory refused)
    → TakesLines (at_list before number) (lines text) stops.0 × (stops.0.is_out_of_memory ≡ true)
memory_for_a_text number text before refused stops = (stops.1, stops.2)

-- ---- what is reported of a command line

pub words_as_they_are_shown : map shown ([] ∷ codes "-x" ∷ (27 ∷ codes "[2J" ++ 194 ∷ 155 ∷ []) ∷ [])
    ≡ codes "''" ∷ codes "-x" ∷ codes "\\x1b[2J\\xc2\\x9b" ∷ []
words_as_they_are_shown = refl

-- memory that ran out is no argument that is not UTF-8, nor is that one the other
pub why_arguments_cannot_be_read : map fault_of (kinds.OutOfMemory ∷ kinds.InvalidData ∷ []) ≡ arguments.OutOfMemory
    ∷ arguments.NotText ∷ []
why_arguments_cannot_be_read = refl

-- ---- what the program says of itself

pub the_only_word : {Z : Type 0} (text : List ℕ) (word : String Z) → is_only text (word ∷ []) ≡ is text word
the_only_word text word = refl

pub one_word_of_two : {Z : Type 0} (text : List ℕ) (word other : String Z) → is_only text (word ∷ other ∷ []) ≡ false
one_word_of_two text word other = refl

pub no_word_alone : (Z : Type 0) (text : List ℕ) → is_only {Z = Z} text [] ≡ false
no_word_alone Z text = refl

pub the_help : {Z : Type 0} (word : String Z) (help version : List ℕ) → string_bytes word ≡ codes "--help"
    → text_asked help version (word ∷ []) ≡ Some help
the_help word help version e = rw e

pub the_help_by_a_letter : {Z : Type 0} (word : String Z) (help version : List ℕ) → string_bytes word ≡ codes "-h"
    → text_asked help version (word ∷ []) ≡ Some help
the_help_by_a_letter word help version e = rw e

pub the_version : {Z : Type 0} (word : String Z) (help version : List ℕ) → string_bytes word ≡ codes "--version"
    → text_asked help version (word ∷ []) ≡ Some version
the_version word help version e = rw e

pub the_help_among_others : {Z : Type 0} (word other : String Z) (help version : List ℕ)
    → text_asked help version (word ∷ other ∷ []) ≡ None
the_help_among_others word other help version = refl

-- a word is left out only if it comes first
pub the_first_word_is_left_out : {Z : Type 0} (quiet list : String Z) → string_bytes quiet ≡ codes "--quiet"
    → without_first (codes "--quiet") (quiet ∷ list ∷ quiet ∷ []) ≡ list ∷ quiet ∷ []
the_first_word_is_left_out quiet list e =
    ap (λ (text : List ℕ). if bytes_eq text (codes "--quiet") then list ∷ quiet ∷ [] else quiet ∷ list ∷ quiet ∷ []) e

pub another_first_word_stays : {Z : Type 0} (union quiet : String Z) → string_bytes union ≡ codes "union"
    → without_first (codes "--quiet") (union ∷ quiet ∷ []) ≡ union ∷ quiet ∷ []
another_first_word_stays union quiet e =
    ap (λ (text : List ℕ). if bytes_eq text (codes "--quiet") then quiet ∷ [] else union ∷ quiet ∷ []) e

pub only_the_first_word_counts : {Z : Type 0} (union quiet : String Z) → string_bytes union ≡ codes "union"
    → begins_with (codes "--quiet") (union ∷ quiet ∷ []) ≡ false
only_the_first_word_counts union quiet e = rw e
