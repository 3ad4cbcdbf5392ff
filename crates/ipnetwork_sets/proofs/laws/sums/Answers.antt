use Rattle.ipnetwork_sets.proofs.Known.{set_adds_up, common_part_adds_up, difference_adds_up}
use Rattle.ipnetwork_sets.proofs.laws.sums.Goals as goal

pub returns : goal.returns
returns c = record {
  set = set_adds_up c.one_block.ensures.apart;
  common = common_part_adds_up c.one_block.ensures.apart;
  difference = difference_adds_up c.one_block.ensures.apart;
}
