-- The laws of aggregation. Most are those of least lists, for the union of the networks.
use Rattle.ipnetwork_blocks.proofs.Words.{◌≡◌, ℕ, ◌<◌, ◌≤◌, ◌⊎◌, inl, inr, sym, refl, subst, ⊎_elim, List, [], ◌∷◌, cases_lt, Contains, Network, Member, Subnet, subnet_from, nested, IsMaximalIn, IsShortest, InUnion, IsAggregate, AggregateHasUnion, AggregateIsApart, AggregateHasOneBlock, AggregateHasNetworks, AggregateBlocksAreNeeded, AggregateIsLeast}
use Rattle.ipnetwork_blocks.proofs.LeastLists.{contains_cons, contains_head, contains_tail, contains_nil, maximal_apart}
use Rattle.ipnetwork_blocks.proofs.MaximalBlocks.{in_a_maximal, holds_one, is_shortest, member_or_not}

-- every address either lies in a union or does not
in_union_or_not : (w : ℕ) (ns : List Network) (x : ℕ) → InUnion w ns x ⊎ ¬ (InUnion w ns x)
in_union_or_not w [] x = inr (λ c. contains_nil c.0 c.1)
in_union_or_not w (n ∷ ns) x =
    ⊎_elim (λ (m : Member w n x). inl (n, contains_head n ns, m))
    (λ (no : ¬ (Member w n x)). ⊎_elim
    (λ (c : InUnion w ns x). inl (c.0, contains_tail n ns c.0 c.1, c.2))
    (λ (none : ¬ (InUnion w ns x)). inr (λ c. ⊎_elim
    (λ (e : n ≡ c.0). no (subst (λ (k : Network). Member w k x) (sym e) c.2))
    (λ (d : Contains ns c.0). none (c.0, d, c.2)) (contains_cons n ns c.0 c.1)))
    (in_union_or_not w ns x))
    (member_or_not w n x)

aggregate_is_shortest : (w : ℕ) (ns r : List Network) → IsAggregate w ns r → IsShortest w (InUnion w ns) r
aggregate_is_shortest w ns r h = is_shortest w (InUnion w ns) r (in_union_or_not w ns) (λ x c. c.2.0) h

pub aggregate_has_union : AggregateHasUnion
aggregate_has_union w ns r h = (aggregate_is_shortest w ns r h).addresses

pub aggregate_is_apart : AggregateIsApart
aggregate_is_apart w ns r h = (aggregate_is_shortest w ns r h).apart

pub aggregate_is_least : AggregateIsLeast
aggregate_is_least w ns r ms h hm same = (aggregate_is_shortest w ns r h).shortest ms hm same

pub aggregate_has_one_block : AggregateHasOneBlock
aggregate_has_one_block w ns r a b x h ca cb ma mb =
    maximal_apart w (InUnion w ns) a b ((h.maximal a).0 ca) ((h.maximal b).0 cb) x ma mb

pub blocks_are_needed : AggregateBlocksAreNeeded
blocks_are_needed w ns r ms h hm same b c = holds_one w (InUnion w ns) ms b hm same ((h.maximal b).0 c)

pub aggregate_has_networks : AggregateHasNetworks
aggregate_has_networks w ns r h c cn = (
  (λ within.
      let own : Member w c c.address = (cn.address_fits, refl) in
      let o = in_a_maximal w (InUnion w ns) (in_union_or_not w ns) c.address cn.address_fits (within c.address own) in
      let b : Network = o.0 in
      let m : IsMaximalIn w (InUnion w ns) b = o.1 in
      let sub : Subnet w c b = ⊎_elim (λ (s : Subnet w c b). s)
      (λ (s : Subnet w b c). ⊎_elim
      (λ (wide : c.prefix < b.prefix). let r : Subnet w c b = absurd (m.maximal c cn wide s within) in r)
      (λ (le : b.prefix ≤ c.prefix). subnet_from w c b cn le o.2)
      (cases_lt c.prefix b.prefix))
      (nested w c b cn m.network (c.address, own, o.2)) in
      (b, (h.maximal b).1 m, sub)),
  (λ o. λ x m. ((h.maximal o.0).0 o.1).lies x (o.2 x m)),
)
