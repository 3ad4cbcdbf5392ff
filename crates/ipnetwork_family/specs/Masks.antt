-- The result of converting a mask to a prefix length.
use Rattle.std.specs.Prelude.{◌≡◌, ℕ, ◌≤◌, Result, MatchResult}
use Rattle.ipnetwork_family.specs.Network.{mask_of, IsNoMask}
use Rattle.ipnetwork_family.specs.declared.error.IpNetworkError.{IpNetworkError}
use Rattle.ipnetwork_family.specs.declared.error.IpNetworkError.TheVariants.{InvalidPrefix}

-- the prefix length that has this mask, or `InvalidPrefix` if the number is not a mask
abbrev pub GivesPrefixOfMask : ℕ → ℕ → Result ℕ IpNetworkError → Type 0
GivesPrefixOfMask w mask result =
    MatchResult result (λ p. (p ≤ w) × (mask ≡ mask_of w p)) (λ fault. (fault ≡ InvalidPrefix) × IsNoMask w mask)
