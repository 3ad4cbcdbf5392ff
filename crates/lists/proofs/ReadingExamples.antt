-- What the definitions of reading promise, part by part: a definition without one of these parts would not give it.
use Rattle.lists.proofs.Words.{◌≡◌, ◌++◌, ◌-◌, ◌^◌, ◌<◌, ◌⊎◌, ℕ, List, true, false, length, refl, None, Some, lines, KnownLists, nothing_known, ReadLists, at_list, TakesLines, ReadsList, ReadsFirst, FailsReading, StopsAt, EndsWithFeed, Refused, Cut, OutOfMemory}
use Rattle.lists.specs.declared.named.ReadFault.TheVariants.{Read}

pub no_bytes_are_known : (name : List ℕ) → nothing_known.bytes_of name ≡ None
no_bytes_are_known name = refl

pub what_is_read : (known : KnownLists) (number : ℕ) (name input : List ℕ) (before after : ReadLists) → ReadsList known
    number name before after → known.bytes_of name ≡ Some input → TakesLines (at_list before number) (lines input) after
what_is_read known number name input before after h e = h.1 input e

pub what_is_whole : (known : KnownLists) (number : ℕ) (name input : List ℕ) (before after : ReadLists) → ReadsList known
    number name before after → before.rules.is_whole ≡ true → known.bytes_of name ≡ Some input → EndsWithFeed input
what_is_whole known number name input before after h wanted e = h.2 wanted input e

pub what_is_cut : (known : KnownLists) (number place : ℕ) (name input : List ℕ) (before : ReadLists) (refused : Refused)
    → StopsAt known number name before (Cut place) refused → known.bytes_of name ≡ Some input
    → (place ≡ number) × (before.rules.is_whole ≡ true) × ¬ (EndsWithFeed input)
what_is_cut known number place name input before refused h e = (h.0, h.2, h.3 input e)

pub what_is_read_first : (known : KnownLists) (number : ℕ) (name input : List ℕ) (before after : ReadLists)
    → ReadsFirst known number name before after → known.bytes_of name ≡ Some input
    → (first : List (List ℕ)) × (others : List (List ℕ)) × (lines input ≡ first ++ others)
    × TakesLines (at_list before number) first after
what_is_read_first known number name input before after h e = h.1 input e

pub why_a_reading_fails : (known : KnownLists) (name : List ℕ) → FailsReading known name
    → known.may_fail name ⊎ ((input : List ℕ) → known.bytes_of name ≡ Some input → 2 ^ 64 - 1 < length input)
why_a_reading_fails known name h = h

pub what_a_failed_read_leaves : (known : KnownLists) (number place : ℕ) (name : List ℕ) (before : ReadLists)
    (refused : Refused) → StopsAt known number name before (Read place) refused
    → (place ≡ number) × FailsReading known name × (after : ReadLists) × ReadsFirst known number name before after
    × (after.is_out_of_memory ≡ false) × (refused ≡ after.refused)
what_a_failed_read_leaves known number place name before refused h = h

pub what_no_memory_leaves : (known : KnownLists) (number : ℕ) (name : List ℕ) (before : ReadLists) (refused : Refused)
    → StopsAt known number name before OutOfMemory refused
    → (after : ReadLists) × ReadsFirst known number name before after × (after.is_out_of_memory ≡ true)
    × (refused ≡ after.refused)
what_no_memory_leaves known number name before refused h = h
