-- The laws of sets of addresses of either family, from those of one family.
use Rattle.ipnetwork_sets.proofs.Words.{◌≡◌, sym, ap, ◌∙◌, List, IpAddr, IpNetwork, least_unique, v4_then_v6, IsIpLeastList}
use Rattle.ipnetwork_addr.specs.declared.ip.IpAddr.TheVariants as addresses

-- ---- the least list of a set; it has the set's addresses, since that of each family has those of the family

pub one_ip_list : (S : IpAddr → Type 0) (r s : List IpNetwork) → IsIpLeastList S r → IsIpLeastList S s → r ≡ s
one_ip_list S r s h k =
    h.2 ∙ ap (λ l. v4_then_v6 l h.1) (least_unique 32 (λ x. S (addresses.V4 x)) h.0 k.0 h.3 k.3)
    ∙ ap (λ l. v4_then_v6 k.0 l) (least_unique 128 (λ x. S (addresses.V6 x)) h.1 k.1 h.4 k.4) ∙ sym k.2
