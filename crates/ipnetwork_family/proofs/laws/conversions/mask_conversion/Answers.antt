use Rattle.ipnetwork_family.proofs.Known.{mask_is_computed, mask_is_converted}
use Rattle.ipnetwork_family.proofs.laws.conversions.mask_conversion.Goals as goal

pub returns : goal.returns
returns c = record { computed = mask_is_computed; converted = mask_is_converted }
