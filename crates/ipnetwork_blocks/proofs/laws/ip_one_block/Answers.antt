use Rattle.ipnetwork_blocks.proofs.Known.{ip_has_networks}
use Rattle.ipnetwork_blocks.proofs.laws.ip_one_block.Goals as goal

pub returns : goal.returns
returns c = record {
  networks = ip_has_networks c.each_asks_its_family.ensures.v4 c.each_asks_its_family.ensures.v6
      c.one_block.ensures.networks;
}
