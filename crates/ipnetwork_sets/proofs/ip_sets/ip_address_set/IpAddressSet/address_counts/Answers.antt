use Rattle.ipnetwork_sets.proofs.Known.{List, subst, arith, Network, InUnion, InIpUnion, count_number, HasCount, in_v4, in_v6, count_of_same}
use Rattle.ipnetwork_addr.specs.declared.ip.IpAddr.TheVariants as addresses
use Rattle.ipnetwork_sets.proofs.ip_sets.ip_address_set.IpAddressSet.address_counts.Goals as goal

pub returns-clause-v4 : goal.returns-clause-v4
returns-clause-v4 c =
    count_of_same _ (λ x. InIpUnion c.args.self.now (addresses.V4 x)) _ (in_v4 c.args.self.now)
    (subst (λ (l : List Network). HasCount (InUnion 32 l) (count_number c.address_count.result)) c.v4.ensures.blocks
    (c.address_count.ensures (omega arith)))

pub returns-clause-v6 : goal.returns-clause-v6
returns-clause-v6 c =
    count_of_same _ (λ x. InIpUnion c.args.self.now (addresses.V6 x)) _ (in_v6 c.args.self.now)
    (subst (λ (l : List Network). HasCount (InUnion 128 l) (count_number c.address_count-2.result)) c.v6.ensures.blocks
    (c.address_count-2.ensures (omega arith)))
