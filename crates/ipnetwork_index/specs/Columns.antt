-- Columns of addresses, and columns of answers for them.
use Rattle.std.specs.Prelude.{◌≡◌, ◌↔◌, ℕ, ◌<◌, Bool, true, false, List, length, Option, None}
use Rattle.std.proofs.Common.{get_or}
use Rattle.std.specs.FinMap.{FinMap}
use Rattle.ipnetwork_family.specs.Network.{Network, network_cmp}
use Rattle.ipnetwork_blocks.specs.Aggregate.{InUnion}
use Rattle.ipnetwork_table.specs.Table.{Finds}

-- there are as many answers as addresses, and each of the first `count` is right for its address
pub record AreAnsweredUpTo {A : Type 0} (IsAnswer : ℕ → A → Type 0) (other : A)
    (addresses : List ℕ) (answers : List A) (count : ℕ) : Type 0 where
  pub size : length answers ≡ length addresses
  pub all : (k : ℕ) → k < count → IsAnswer (get_or addresses k 0) (get_or answers k other)

-- the answer is `true` exactly if the address is in the union of the networks
abbrev pub IsTold : ℕ → List Network → ℕ → Bool → Type 0
IsTold w networks x answer = (answer ≡ true) ↔ InUnion w networks x

-- each answer of a column says whether its address is in the union of the networks
abbrev pub AreTold : ℕ → List Network → List ℕ → List Bool → Type 0
AreTold w networks addresses answers =
    AreAnsweredUpTo (IsTold w networks) false addresses answers (length addresses)

-- each answer of a column is the result of looking up its address
abbrev pub AreFound : {N V : Type 0} → (N → Network) → ℕ → FinMap network_cmp V → List ℕ
    → List (Option (N × V)) → Type 0
AreFound pair w t addresses answers =
    AreAnsweredUpTo (Finds pair w t) None addresses answers (length addresses)
