use Rattle.ipnetwork.proofs.Known.{v4_makes, v6_makes, v4_takes, v6_takes, masked_is_made, no_mask_is_refused}
use Rattle.ipnetwork.proofs.laws.families.each_is_made_in_its_family.Goals as goal

pub returns : goal.returns
returns c = record {
  v4 = v4_makes;
  v6 = v6_makes;
  masked = masked_is_made c.masks.ensures;
  refused = no_mask_is_refused;
  takes_v4 = v4_takes;
  takes_v6 = v6_takes;
}
