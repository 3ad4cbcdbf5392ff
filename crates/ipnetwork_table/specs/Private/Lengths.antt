-- The prefix lengths in use in a table.
use Rattle.std.specs.Prelude.{◌≡◌, ℕ, ◌<◌, ◌≤◌, ◌==◌, List, slice_index_or}
use Rattle.std.specs.FinMap.{FinMap, len, retain_keys}
use Rattle.ipnetwork_family.specs.Network.{network_cmp}

-- the number of stored blocks with the prefix length p
abbrev pub count_of_length : {V : Type 0} → FinMap network_cmp V → ℕ → ℕ
count_of_length t p = len (retain_keys t (λ n. n.prefix == p))

-- `counts` has, at each prefix length, the number of stored blocks with that length
abbrev pub CountsLengths : {V : Type 0} → FinMap network_cmp V → List ℕ → Type 0
CountsLengths t counts =
    (p : ℕ) → p < 256 → slice_index_or counts p 0 ≡ count_of_length t p

-- no prefix length up to p is in use, as these counts say
abbrev pub NoneUsedUpTo : List ℕ → ℕ → Type 0
NoneUsedUpTo counts p = (q : ℕ) → q ≤ p → slice_index_or counts q 0 ≡ 0

-- no prefix length above q and up to p is in use, as these counts say
abbrev pub NoneUsedBetween : List ℕ → ℕ → ℕ → Type 0
NoneUsedBetween counts q p = (r : ℕ) → q < r → r ≤ p → slice_index_or counts r 0 ≡ 0

-- q is the greatest prefix length up to p that is in use, as these counts say
abbrev pub IsLastUsedUpTo : List ℕ → ℕ → ℕ → Type 0
IsLastUsedUpTo counts p q = (q ≤ p) × (0 < slice_index_or counts q 0) × NoneUsedBetween counts q p
