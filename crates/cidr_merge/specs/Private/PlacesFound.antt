-- The places that a search finds for an entry, in parts.
use Rattle.std.specs.Prelude.{◌<◌, ◌≤◌, ℕ, List, length, slice_index_or}
use Rattle.std.specs.List.{All, Contains}
use Rattle.cidr_merge.specs.Private.SoughtPlaces.{Place}

-- among these numbers of places are those of all places from one index to another that end at `first` or later
pub record HaveReaching (places : List Place) (begin end first : ℕ) (found : List ℕ) : Type 0 where
  pub within : (count : ℕ) → All (λ place. place.2 < count) places → All (λ place. place < count) found
  pub each : (at : ℕ) (d : Place) → begin ≤ at → at < end → first ≤ (slice_index_or places at d).1
      → Contains found (slice_index_or places at d).2

-- these are a part of places, no more, and among them all that begin at `last` or before
pub record AreUpTo (places : List Place) (last : ℕ) (part : List Place) : Type 0 where
  pub few : length part ≤ length places
  pub some : (count : ℕ) → All (λ place. place.2 < count) places → All (λ place. place.2 < count) part
  pub all : (one : Place) → Contains places one → one.0 ≤ last → Contains part one

-- the places from one index to another end no later than `last`
abbrev pub EndBy : List Place → ℕ → ℕ → ℕ → Type 0
EndBy places begin end last =
    (at : ℕ) (d : Place) → begin ≤ at → at < end → (slice_index_or places at d).1 ≤ last
