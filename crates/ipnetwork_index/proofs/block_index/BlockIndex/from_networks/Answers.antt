use Rattle.ipnetwork_index.proofs.Known.{map, by_pair, its_table, has_blocks, has_value}
use Rattle.ipnetwork_index.proofs.block_index.BlockIndex.from_networks.Goals as goal

pub of-requires : goal.of-requires
of-requires g c =
    rw c.as_slice.ensures.value (
      _,
      its_table g.N.CidrNetwork.WIDTH (map g.N.CidrNetwork.pair c.args.networks.now) c.args.value
          (by_pair g.N.CidrNetwork.pair c.in_ok-entries.entries.items) c.in_ok-entries.ensures
          c.listing.ensures.listed,
    )

pub invariant_of-result : goal.invariant_of-result
invariant_of-result g c =
    (rw c.as_slice.ensures.value at c.in_ok-ranges.ensures) _
    (its_table g.N.CidrNetwork.WIDTH (map g.N.CidrNetwork.pair c.args.networks.now) c.args.value
    (by_pair g.N.CidrNetwork.pair c.in_ok-entries.entries.items) c.in_ok-entries.ensures
    c.listing.ensures.listed)

pub returns-clause-blocks : goal.returns-clause-blocks
returns-clause-blocks g c =
    has_blocks g.N.CidrNetwork.WIDTH (map g.N.CidrNetwork.pair c.args.networks.now) c.args.value
    (by_pair g.N.CidrNetwork.pair c.in_ok-entries.entries.items) c.in_ok-entries.ensures
    c.listing.ensures.listed c.listing.ensures.stored

pub returns-clause-value : goal.returns-clause-value
returns-clause-value g c =
    has_value g.N.CidrNetwork.WIDTH (map g.N.CidrNetwork.pair c.args.networks.now) c.args.value
    (by_pair g.N.CidrNetwork.pair c.in_ok-entries.entries.items) c.in_ok-entries.ensures
    c.listing.ensures.listed
