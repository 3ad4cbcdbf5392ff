-- Entries of lists that share addresses with an earlier entry.
use Rattle.std.specs.Prelude.{◌&&◌, ℕ, Bool, List, [], ◌∷◌, ◌++◌, if◌then◌else◌, String}
use Rattle.cidr_merge.specs.Overlaps.{Listed, is_up_to, reaches, pair_text, pairs_after}

-- whether an entry has the same addresses as one before it: the same first and the same last address
abbrev pub is_same : Listed → Listed → Bool
is_same later earlier =
    is_up_to later.first earlier.first
    && (is_up_to later.last earlier.last && is_up_to earlier.last later.last)

-- of two entries, the one with the greater last address; the earlier one if the last addresses are equal
abbrev pub further : Listed → Listed → Listed
further earlier later = if is_up_to later.last earlier.last then earlier else later

-- the entry with which a later one is compared: the one just before it, if they have the same addresses; else, of all
-- entries before it, the first of those with the greatest last address
abbrev pub other_of : Listed → Listed → Listed → Listed
other_of previous furthest later = if is_same later previous then previous else furthest

-- the finding for the two entries, if they overlap
abbrev pub overlap_with : {Z : Type 0} → List (String Z) → Listed → Listed → List (List ℕ)
overlap_with names later earlier =
    if reaches later earlier then pair_text names later earlier ∷ [] else []

-- the findings for entries in order, given the entry just before them and the furthest one
abbrev pub repetitions_after : {Z : Type 0} → List (String Z) → Listed → Listed → List Listed
    → List (List ℕ)
repetitions_after names previous furthest [] = []
repetitions_after names previous furthest (entry ∷ others) =
    overlap_with names entry (other_of previous furthest entry)
    ++ repetitions_after names entry (further furthest entry) others

-- the findings for all entries, in order: at most one for each entry
abbrev pub repetitions : {Z : Type 0} → List (String Z) → List Listed → List (List ℕ)
repetitions names [] = []
repetitions names (first ∷ others) = repetitions_after names first first others

-- the findings for entries in order: those of a strict check, or else all pairs that overlap
abbrev pub found_among : {Z : Type 0} → Bool → List (String Z) → List Listed → List (List ℕ)
found_among strictly names entries =
    if strictly then repetitions names entries else pairs_after names [] entries
