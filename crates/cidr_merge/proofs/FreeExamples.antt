-- Requests and pools at which a wrong family, or wrong networks that are printed, would show. Each of these computes.
use Rattle.cidr_merge.proofs.Words.{◌≡◌, ℕ, ◌∷◌, [], true, false, refl, map, codes, digits, Minus, Blocks, ◌^◌, ◌-◌}
use Rattle.cidr_merge.proofs.Examples.{none, one, one6, plain_merge, ten}
use Rattle.cidr_merge.specs.Hosts.{are_hosts, hosts_in}
use Rattle.cidr_merge.specs.Usages.{lacks_used, share}
use Rattle.cidr_merge.specs.FreeRuns.{are_of_both, is_v6, others_if}
use Rattle.cidr_merge.specs.declared.command_line.FreeRequest.{FreeRequest}
use Rattle.cidr_merge.specs.declared.free_task.FreeTask.TheVariants as free_tasks
use Rattle.cidr_merge.specs.declared.reading.Sets.{Sets}

abbrev asked : ℕ → FreeRequest
asked length = record { task = free_tasks.Blocks; length = length; all = false; merge = plain_merge Minus Blocks }

abbrev both : Sets
both = record { v4 = ten ∷ []; v6 = ten ∷ [] }

-- pools of both families are refused up to the longest prefix length of IPv4
pub families_refused : map (are_of_both (asked 32)) (none ∷ one ∷ one6 ∷ both ∷ []) ≡ false ∷ false ∷ false ∷ true ∷ []
families_refused = refl

pub families_taken : map (λ length. are_of_both (asked length) both) (0 ∷ 33 ∷ 128 ∷ []) ≡ true ∷ false ∷ false ∷ []
families_taken = refl

-- the family of the pools, or IPv6 for a length that IPv4 has not
pub family_of_pools : map (is_v6 (asked 32)) (none ∷ one ∷ one6 ∷ []) ≡ true ∷ false ∷ true ∷ []
family_of_pools = refl

pub family_of_length : map (is_v6 (asked 33)) (one ∷ both ∷ []) ≡ true ∷ true ∷ []
family_of_length = refl

-- one network, or all
pub printed : (others_if false (ten ∷ []) ≡ []) × (others_if true (ten ∷ []) ≡ ten ∷ [])
printed = (refl, refl)

-- numbers of hosts: those of a text, and texts that are none
pub host_numbers : hosts_in (codes "100,05,340282366920938463463374607431768211454")
    ≡ 100 ∷ 5 ∷ 340282366920938463463374607431768211454 ∷ []
host_numbers = refl

pub host_texts : map (λ text. are_hosts text) (codes "1" ∷ codes "1,2" ∷ codes "0" ∷ codes "1,0" ∷ codes "" ∷ codes ","
    ∷ codes "1," ∷ codes ",1" ∷ codes "1,,2" ∷ codes "1;2" ∷ codes "340282366920938463463374607431768211455" ∷ [])
    ≡ true ∷ true ∷ false ∷ false ∷ false ∷ false ∷ false ∷ false ∷ false ∷ false ∷ false ∷ []
host_texts = refl

-- which part is used, rounded down
pub shares : map (λ used. share used 256) (0 ∷ 1 ∷ 128 ∷ 255 ∷ 256 ∷ [])
    ≡ codes "0.0" ∷ codes "0.3" ∷ codes "50.0" ∷ codes "99.6" ∷ codes "100.0" ∷ []
unfolding digits
shares = refl

pub shares_of_all : map (λ used. share used (2 ^ 128)) (1 ∷ (2 ^ 128 - 1) ∷ 2 ^ 128 ∷ [])
    ≡ codes "0.0" ∷ codes "99.9" ∷ codes "100.0" ∷ []
unfolding digits
shares_of_all = refl

-- pools without used addresses of their family, and no pools
pub used_lacking : map (λ pools. lacks_used pools one) (none ∷ one ∷ one6 ∷ both ∷ []) ≡ true ∷ false ∷ true ∷ true ∷ []
used_lacking = refl
