-- Tables: finite maps from blocks of addresses of w bits to values, and the longest block that holds an address
-- (RFC 4632, section 5.1).
use Rattle.std.specs.Prelude.{◌≡◌, ℕ, ◌≤◌, List, map, Option, None, Some, MatchOption, IsSome, refl}
use Rattle.std.specs.Coded.{Coded, code_by, coded×, coded_ℕ}
use Rattle.std.specs.FinMap.{FinMap, get}
use Rattle.ipnetwork_family.specs.Network.{Network, HostBitsAreZero, IsCidrBlock, Member, network_cmp}

-- a network encoded as its two numbers, so that it can be a key of a finite map
abbrev pub network_code : Coded Network
network_code = code_by (ℕ × ℕ) (coded× coded_ℕ coded_ℕ) (λ n. (n.address, n.prefix))
    (λ numbers. record { address = numbers.0; prefix = numbers.1 }) (λ n. refl)

-- entries with networks of some type, each converted to a `Network` by `pair`
abbrev pub by_pair : {N V : Type 0} → (N → Network) → List (N × V) → List (Network × V)
by_pair pair entries = map (λ e. (pair e.0, e.1)) entries

-- what was found with networks of some type, its network converted to a `Network` by `pair`
abbrev pub found_by_pair : {N V : Type 0} → (N → Network) → Option (N × V) → Option (Network × V)
found_by_pair pair None = None
found_by_pair pair (Some found) = Some (pair found.0, found.1)

-- each key is a network without host bits
abbrev pub HasOnlyBlocks : {V : Type 0} → ℕ → FinMap network_cmp V → Type 0
HasOnlyBlocks w t = (n : Network) → IsSome (get t n) → IsCidrBlock w n

-- no key has host bits
abbrev pub HasNoHostBits : {V : Type 0} → ℕ → FinMap network_cmp V → Type 0
HasNoHostBits w t = (n : Network) → IsSome (get t n) → HostBitsAreZero w n

-- the block n is stored with the value v and holds x, and no stored block that holds x has a greater prefix length
pub record IsLongest {V : Type 0} (w : ℕ) (t : FinMap network_cmp V) (x : ℕ) (n : Network) (v : V) : Type 0 where
  pub stored : get t n ≡ Some v
  pub holds : Member w n x
  pub longest : (m : Network) → IsSome (get t m) → Member w m x → m.prefix ≤ n.prefix

-- no stored block holds x
abbrev pub NoneHolds : {V : Type 0} → ℕ → FinMap network_cmp V → ℕ → Type 0
NoneHolds w t x = (n : Network) → IsSome (get t n) → ¬ (Member w n x)

-- the result of looking up x: the longest stored block that holds x and its value, or nothing if no stored block holds
-- x. The block is of some type, and `pair` converts it to a `Network`
abbrev pub Finds : {N V : Type 0} → (N → Network) → ℕ → FinMap network_cmp V → ℕ → Option (N × V) → Type 0
Finds pair w t x found = MatchOption found (NoneHolds w t x) (λ f. IsLongest w t x (pair f.0) f.1)

-- `Finds` for blocks of the type `Network`
abbrev pub Answers : {V : Type 0} → ℕ → FinMap network_cmp V → ℕ → Option (Network × V) → Type 0
Answers w t x answer = Finds (λ n. n) w t x answer
