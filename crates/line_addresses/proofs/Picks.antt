-- Which addresses of a part are picked.
use Rattle.line_addresses.proofs.Words.{◌≡◌, ◌≢◌, ℕ, ◌≤◌, Bool, List, [], length, drop, Option, None, Some, refl, ap, ◌∙◌, arith, option_map, slice_get, IfSome, MatchOption, option_to_list, Spelled, each_of, last_of, picked, IsPicked, IsNextOf, spelled_at, Pick, Found}
use Rattle.line_addresses.specs.declared.area.Pick.TheVariants as picks
use Rattle.line_addresses.proofs.NextWords.{first_word}

-- at most one address is picked, unless the pick is `Each`
pub each_is_one : (networks : Bool) (pick : Pick) (text : List ℕ) → pick ≢ picks.Each
    → each_of networks pick text ≡ option_to_list (picked networks pick text)
each_is_one networks picks.Whole text other = refl
each_is_one networks picks.Each text other = absurd (other refl)
each_is_one networks (picks.Number number) text other = refl
each_is_one networks picks.Last text other = refl

-- the next address of a text is the picked one if no more are to be passed over
pub next_picked : (all : List ℕ → List Spelled) (text : List ℕ) (at more : ℕ) (found : Found) (one : Option Spelled)
    → IsNextOf all text at found → one ≡ slice_get (all (drop at text)) more → more ≡ 0
    → IsPicked one text found
next_picked all text at more found one next is none = record {
  ordered = next.text;
  within = omega (arith, next.before_next, next.within);
  is = is ∙ first_word _ _ _ more none next.first;
}

-- `last` is the last address found so far
abbrev pub IsLast : (List ℕ → List Spelled) → List ℕ → ℕ → Option Found → Type 0
IsLast all text at last = last_of None (all text) ≡ last_of (option_map (spelled_at text) last) (all (drop at text))

abbrev pub Lies : List ℕ → Found → Type 0
Lies text found = (found.start ≤ found.end) × (found.end ≤ length text)

pub one_later : (all : List ℕ → List Spelled) (text : List ℕ) (at : ℕ) (last : Option Found) (found : Found)
    → IsLast all text at last → IsNextOf all text at found → IsLast all text found.next (Some found)
one_later all text at last found is next = is ∙ ap (λ l. last_of (option_map (spelled_at text) last) l) next.first

pub last_picked : (all : List ℕ → List Spelled) (text : List ℕ) (at : ℕ) (last : Option Found) → IsLast all text at last
    → IfSome last (Lies text) → all (drop at text) ≡ []
    → MatchOption last (last_of None (all text) ≡ None) (IsPicked (last_of None (all text)) text)
last_picked all text at None is lies none = is ∙ ap (λ l. last_of None l) none
last_picked all text at (Some found) is lies none =
    record { ordered = lies.0; within = lies.1; is = is ∙ ap (λ l. last_of (Some (spelled_at text found)) l) none }
