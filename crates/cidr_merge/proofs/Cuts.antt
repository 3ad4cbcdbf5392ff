-- The networks into which a network is split.
use Rattle.cidr_merge.proofs.Words.{◌≡◌, ◌≤◌, ℕ, refl, nat_le, le-leb, and_from, Network, subnets_of, pieces}

-- a network that is split has the subnets of that length
pub cut_into : (w number : ℕ) (block : Network) → block.prefix ≤ number → number ≤ w
    → pieces w number block ≡ subnets_of w block number
cut_into w number block p l =
    rw (and_from (nat_le block.prefix number) (nat_le number w) (le-leb _ _ p) (le-leb _ _ l)) refl
