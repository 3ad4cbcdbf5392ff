-- The groups that a text begins with.
use Rattle.std.specs.Prelude.{◌≡◌, ℕ, ◌^◌, ◌<◌, ◌≤◌, ◌⊎◌, List, [], ◌∷◌, ◌++◌, length, drop, slice_index, Option, None}
use Rattle.std.specs.Prelude.{Some}
use Rattle.std.specs.Char.{digit_value}
use Rattle.std.specs.Int.Digits.{number_from_digits}
use Rattle.ipnetwork_addr.specs.Ipv4Text.{NamesV4}
use Rattle.ipnetwork_addr.specs.Ipv6Text.{IsGroup, two_groups}
use Rattle.ipnetwork_addr.specs.Texts.{colon}

-- the text does not begin with a hex digit
abbrev pub NoHex : List ℕ → Type 0
NoHex text = 16 ≤ digit_value (slice_index text 0)

-- the text is a hex digit of this value, followed by the rest
pub record BeginsWithHex (text : List ℕ) (digit : ℕ) (rest : List ℕ) : Type 0 where
  pub byte : ℕ
  pub value : digit_value byte ≡ digit
  pub below_sixteen : digit < 16
  pub split : text ≡ byte ∷ rest

-- the text is a group, followed by the rest, which does not begin with a hex digit
pub record BeginsWithGroup (text : List ℕ) (group : ℕ) (rest : List ℕ) : Type 0 where
  pub front : List ℕ
  pub named : IsGroup front group
  pub split : text ≡ front ++ rest
  pub stops : NoHex rest

-- the text does not begin with a group
abbrev pub NoGroup : List ℕ → Type 0
NoGroup text = (group : ℕ) (rest : List ℕ) → ¬ (BeginsWithGroup text group rest)

-- the text from `at` to `end` is a group, and a colon or the end of the text follows
pub record IsGroupUpTo (text : List ℕ) (at end group : ℕ) : Type 0 where
  pub begins : BeginsWithGroup (drop at text) group (drop end text)
  pub within : end ≤ length text
  pub colon_or_end : end < length text → slice_index text end ≡ colon

-- The text begins with a part whose first group is `group`. A part of an IPv6 text is one or more groups joined by
-- colons, up to a `::` or the end of the text; before the end of the text, an IPv4 text may replace the last two
-- groups. `end` is what follows the `::`, if there is one. `More` holds for the text after the colon if the rest of the
-- part begins there.
pub data IsPartFrom (More : List ℕ → Type 0) (text : List ℕ) (group : ℕ) (groups : List ℕ)
    (end : Option (List ℕ)) : Type 0 where
  Last : BeginsWithGroup text group [] → groups ≡ [] → end ≡ None → IsPartFrom More text group groups end
  Dotted : (address : ℕ) → NamesV4 text address → group ∷ groups ≡ two_groups address → end ≡ None
      → IsPartFrom More text group groups end
  Gap : (next : List ℕ) → BeginsWithGroup text group (colon ∷ colon ∷ next) → groups ≡ [] → end ≡ Some next
      → IsPartFrom More text group groups end
  Next : (next : List ℕ) → BeginsWithGroup text group (colon ∷ next) → More next → IsPartFrom More text group groups end

-- the text begins with a part of these groups, with this end
abbrev pub IsTextPart : List ℕ → List ℕ → Option (List ℕ) → Type 0
IsTextPart [] text end = ⊥
IsTextPart (group ∷ groups) text end = IsPartFrom (λ next. IsTextPart groups next end) text group groups end

-- the text begins with a part of `count` groups, at most `room`, which make up this number, with this end
pub record BeginsWithPart (room : ℕ) (text : List ℕ) (count number : ℕ) (end : Option (List ℕ)) : Type 0 where
  pub groups : List ℕ
  pub part : IsTextPart groups text end
  pub counted : count ≡ length groups
  pub fits : count ≤ room
  pub value : number ≡ number_from_digits (2 ^ 16) groups
  pub small : number < (2 ^ 16) ^ count

-- the text does not begin with a part of at most `room` groups
abbrev pub NoPart : ℕ → List ℕ → Type 0
NoPart room text = (groups : List ℕ) (end : Option (List ℕ)) → IsTextPart groups text end → room < length groups

-- the text begins with `::`, so that no groups precede it
pub record IsNoLeft (groups text : List ℕ) (end : Option (List ℕ)) : Type 0 where
  pub next : List ℕ
  pub none : groups ≡ []
  pub spelled : text ≡ colon ∷ colon ∷ next
  pub ends : end ≡ Some next

-- the text begins with these groups up to a `::` or its end; there are none if it begins with `::`
abbrev pub IsLeft : List ℕ → List ℕ → Option (List ℕ) → Type 0
IsLeft groups text end = IsTextPart groups text end ⊎ IsNoLeft groups text end

-- the text begins with `count` groups, at most eight, up to a `::` or its end, and they make up this number
pub record BeginsWithLeft (text : List ℕ) (count number : ℕ) (end : Option (List ℕ)) : Type 0 where
  pub groups : List ℕ
  pub left : IsLeft groups text end
  pub counted : count ≡ length groups
  pub fits : count ≤ 8
  pub value : number ≡ number_from_digits (2 ^ 16) groups
  pub small : number < (2 ^ 16) ^ count

-- the text does not begin with at most eight groups up to a `::` or its end
abbrev pub NoLeft : List ℕ → Type 0
NoLeft text = (groups : List ℕ) (end : Option (List ℕ)) → IsLeft groups text end → 8 < length groups

-- the text is these groups, joined by colons and possibly ending in an IPv4 text, or is empty
abbrev pub IsRight : List ℕ → List ℕ → Type 0
IsRight groups text = IsTextPart groups text None ⊎ ((groups ≡ []) × (text ≡ []))

-- the text is at most `room` groups, which make up this number
pub record EndsWithRight (room : ℕ) (text : List ℕ) (number : ℕ) : Type 0 where
  pub groups : List ℕ
  pub right : IsRight groups text
  pub fits : length groups ≤ room
  pub value : number ≡ number_from_digits (2 ^ 16) groups
  pub small : number < (2 ^ 16) ^ room

-- the text is not at most `room` groups
abbrev pub NoRight : ℕ → List ℕ → Type 0
NoRight room text = (groups : List ℕ) → IsRight groups text → room < length groups
