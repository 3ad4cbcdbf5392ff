-- The number of addresses in a set.
use Rattle.std.specs.Prelude.{◌≡◌, ℕ, ◌+◌, ◌^◌, ◌<◌, ◌≤◌, ◌↔◌, List, [], ◌∷◌, length, Result, MatchResult}
use Rattle.std.specs.List.{AllPairs, Contains}
use Rattle.ipnetwork_family.specs.Network.{Network, block_size}
use Rattle.ipnetwork_family.specs.declared.error.NetworkSizeError.{NetworkSizeError}
use Rattle.ipnetwork_sets.specs.declared.address_count.AddressCount.{AddressCount}
use Rattle.ipnetwork_sets.specs.declared.address_count.AddressCount.TheVariants.{Number, AllOfIpv6}

-- the number that a count represents
abbrev pub count_number : AddressCount → ℕ
count_number (Number n) = n
count_number AllOfIpv6 = 2 ^ 128

-- the result is the number of the count if a u128 can hold it, and an error otherwise
abbrev pub FitsNumber : AddressCount → Result ℕ NetworkSizeError → Type 0
FitsNumber count result = MatchResult result (λ n. (count_number count < 2 ^ 128) × (n ≡ count_number count))
    (λ _. 2 ^ 128 ≤ count_number count)

-- the set has n addresses: the ascending list of its addresses has this length
pub record HasCount (set : ℕ → Type 0) (n : ℕ) : Type 0 where
  pub addresses : List ℕ
  pub ascending : AllPairs (λ x y. x < y) addresses
  pub exactly : (x : ℕ) → Contains addresses x ↔ set x
  pub count : length addresses ≡ n

-- the sum of the sizes of the networks
abbrev pub total : ℕ → List Network → ℕ
total w [] = 0
total w (n ∷ ns) = block_size w n.prefix + total w ns
