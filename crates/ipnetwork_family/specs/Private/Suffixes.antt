-- The prefix length that the suffix of a text gives.
use Rattle.std.specs.Prelude.{◌≡◌, ℕ, List, Option, None, Some}
use Rattle.ipnetwork_family.specs.Ipv4NetworkText.{IsV4Suffix}

-- the prefix length that a suffix gives, or w if there is none
abbrev pub GivesPrefix : ℕ → (List ℕ → ℕ → Type 0) → Option (List ℕ) → ℕ → Type 0
GivesPrefix w IsSuffix None p = p ≡ w
GivesPrefix w IsSuffix (Some suffix) p = IsSuffix suffix p

-- the suffix gives no prefix length
abbrev pub GivesNoPrefix : ℕ → (List ℕ → ℕ → Type 0) → Option (List ℕ) → Type 0
GivesNoPrefix w IsSuffix suffix = (p : ℕ) → ¬ (GivesPrefix w IsSuffix suffix p)

-- the text gives no IPv4 prefix length
abbrev pub IsNoV4Suffix : List ℕ → Type 0
IsNoV4Suffix text = (p : ℕ) → ¬ (IsV4Suffix text p)
