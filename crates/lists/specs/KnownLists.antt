-- What is known about lists.
use Rattle.std.specs.Prelude.{ℕ, Bool, List, Option, None}
use Rattle.lists.specs.declared.opening.OpenFault.{OpenFault}

-- what is known about the list of each name: its bytes, if they are known; whether opening it may succeed, and whether
-- it may fail; for which causes it may fail; and whether a read of it may fail
pub record KnownLists : Type 1 where
  pub bytes_of : List ℕ → Option (List ℕ)
  pub may_open : List ℕ → Bool → Type 0
  pub may_miss : List ℕ → OpenFault → Type 0
  pub may_fail : List ℕ → Type 0

-- nothing is known about any list: opening it may succeed, or fail for any cause, and a read may fail
abbrev pub nothing_known : KnownLists
nothing_known = record {
  bytes_of = λ _. None;
  may_open = λ _ _. Unit {0};
  may_miss = λ _ _. Unit {0};
  may_fail = λ _. Unit {0};
}
