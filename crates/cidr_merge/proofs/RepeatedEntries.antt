-- The entries that share addresses with an earlier one, entry by entry.
use Rattle.cidr_merge.proofs.Words.{◌≡◌, ◌+◌, ◌||◌, ◌<◌, ◌∙◌, ℕ, Bool, List, ◌++◌, sym, ap, length, map, drop, get_or, String, at_drop_more, Written, listed_as, TellsFound, further, other_of, overlap_with, repetitions_after, Placed}
use Rattle.cidr_merge.proofs.Found.{ToldSoFar, more_so_far}

-- the findings for the entries that are left
abbrev pub left_of : {Z : Type 0} → List (String Z) → Placed → Placed → List Placed → List (List ℕ)
left_of names previous furthest others =
    repetitions_after names (listed_as previous) (listed_as furthest) (map listed_as others)

-- one more entry was compared, and printed if it overlaps another
pub repetitions_told_more : {Z W : Type 0} (names : List (String Z)) (all : List (List ℕ))
    (previous furthest other next : Placed) (entries : List Placed) (place : ℕ) (d : Placed)
    (old mid new : Written W) (found more both : Bool)
    → place < length entries
    → ToldSoFar all (left_of names previous furthest (drop place entries)) old mid found
    → listed_as other ≡ other_of (listed_as previous) (listed_as furthest)
    (listed_as (get_or entries place d))
    → TellsFound (overlap_with names (listed_as (get_or entries place d)) (listed_as other))
    mid new more
    → both ≡ (found || more)
    → listed_as next ≡ further (listed_as furthest) (listed_as (get_or entries place d))
    → ToldSoFar all (left_of names (get_or entries place d) next (drop (place + 1) entries))
    old new both
repetitions_told_more names all previous furthest other next entries place d old mid new found more
    both l h o k b n =
    let later = get_or entries place d in
    let rest = map listed_as (drop (place + 1) entries) in
    let after : left_of names previous furthest (drop place entries)
    ≡ overlap_with names (listed_as later) (listed_as other)
    ++ repetitions_after names (listed_as later) (listed_as next) rest =
    at_drop_more (left_of names previous furthest) entries place d l
    ∙ ap (λ y. overlap_with names (listed_as later) y ++ repetitions_after names (listed_as later)
    (further (listed_as furthest) (listed_as later)) rest) (sym o)
    ∙ ap (λ y. overlap_with names (listed_as later) (listed_as other)
    ++ repetitions_after names (listed_as later) y rest) (sym n) in
    more_so_far all _ _ _ old mid new found more both h after k b
