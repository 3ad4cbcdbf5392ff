use Rattle.ipnetwork_blocks.proofs.Known.{List, map, take, subst, arith, IpNetwork, IsAggregate, the_network, either_aggregate}
use Rattle.ipnetwork_blocks.proofs.aggregate_ip.aggregate_ip_in_place.Goals as goal

pub returns-clause-aggregate : goal.returns-clause-aggregate
returns-clause-aggregate c =
    let v4 : List IpNetwork = c.aggregate_held-v4_blocks.new.values in
    let v6 : List IpNetwork = c.aggregate_held-v6_blocks.new.values in
    let a = c.aggregate_held-v4_blocks.result in
    let b = c.aggregate_held-v6_blocks.result in
    let front = c.split_at_mut-v4.ensures.front_len in
    either_aggregate c.args.networks.now c.put_v4_first-v4_count.new.networks v4 v6 c.copy_within.new.self
    c.put_v4_first-v4_count.result a b
    c.put_v4_first-v4_count.ensures.same (omega (arith, front))
    (record {
      given = c.put_v4_first-v4_count.ensures.v4;
      left = c.aggregate_held-v4_blocks.ensures.held;
      within = omega (arith, c.aggregate_held-v4_blocks.ensures.within);
      aggregate = subst (λ (t : List IpNetwork). IsAggregate 32 (map the_network t) (map the_network (take a v4)))
          c.split_at_mut-v4.ensures.front c.aggregate_held-v4_blocks.ensures.aggregate;
    })
    (record {
      given = c.put_v4_first-v4_count.ensures.v6;
      left = c.aggregate_held-v6_blocks.ensures.held;
      within = omega (arith, c.aggregate_held-v6_blocks.ensures.within);
      aggregate = subst (λ (t : List IpNetwork). IsAggregate 128 (map the_network t) (map the_network (take b v6)))
          c.split_at_mut-v4.ensures.back c.aggregate_held-v6_blocks.ensures.aggregate;
    })
    c.copy_within.ensures.after
