-- How a tally counts.
use Rattle.std.specs.Prelude.{◌≡◌, ℕ, zero, suc, Bool, List, [], ◌∷◌, ◌++◌, replicate, Option, None, Some, Vec, nat_eq}
use Rattle.std.specs.Prelude.{if◌then◌else◌}
use Rattle.std.specs.Cmp.Lexicographic.{pointwise}
use Rattle.std.specs.HashMap.{HashMap, get_by}
use Rattle.std.specs.List.{count_by}
use Rattle.std.specs.Str.{bytes_eq}
use Rattle.std.specs.declared.cmp.Reverse.{Reverse}
use Rattle.cidr_join.specs.Joins.{mark_of}
use Rattle.cidr_join.specs.Tallies.{Row, count_of}
use Rattle.cidr_join.specs.declared.found.Found.{Found}
use Rattle.cidr_join.specs.declared.found.Found.TheVariants as prints

-- a row of the code as one of the definitions
abbrev pub row_of : {Z : Type 0} → Reverse ℕ × Vec ℕ Z → Row
row_of row = record { count = row.0.0; text = row.1.items }

-- the count of a text
abbrev pub found_for : {Z S : Type 0} → HashMap (Vec ℕ Z) ℕ S → List ℕ → Option ℕ
found_for counts text = get_by (λ key. pointwise nat_eq text key.items) counts

-- the count of a text that occurs `number` times; `None` if it does not occur
abbrev pub some_count : ℕ → ℕ → Option ℕ
some_count zero count = None
some_count (suc number) count = Some count

-- each text that is among the named ones or these has a count: how often it is among these. No other text has a count
abbrev pub Counted : {Z S : Type 0} → List (List ℕ) → List (List ℕ) → HashMap (Vec ℕ Z) ℕ S → Type 0
Counted named texts counts = (text : List ℕ)
    → found_for counts text ≡ some_count (count_by (bytes_eq text) (named ++ texts)) (count_of text texts)

-- in addition, these texts were named, and these counted
abbrev pub CountsTexts : {Z S : Type 0} → List (List ℕ) → List (List ℕ) → HashMap (Vec ℕ Z) ℕ S
    → HashMap (Vec ℕ Z) ℕ S → Type 0
CountsTexts named marks old new = (names texts : List (List ℕ)) → Counted names texts old
    → Counted (names ++ named) (texts ++ marks) new

-- the texts to name: this text, or the text for what was found, unless it is nothing; only if that is asked for
abbrev pub named_if : Bool → List ℕ → List (List ℕ)
named_if named text = if named then text ∷ [] else []

abbrev pub named_by : Bool → Found → List (List ℕ)
named_by zeros prints.Nothing = []
named_by zeros found = named_if zeros (mark_of found)

-- the texts for these findings, each as often as its number says
abbrev pub repeated : List Found → List ℕ → List (List ℕ)
repeated [] numbers = []
repeated (found ∷ founds) [] = []
repeated (found ∷ founds) (number ∷ numbers) = replicate number (mark_of found) ++ repeated founds numbers
