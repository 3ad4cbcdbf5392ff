use Rattle.ipnetwork.proofs.Known.{v4_asks, v6_asks}
use Rattle.ipnetwork.proofs.laws.families.each_asks_its_family.Goals as goal

pub returns : goal.returns
returns c = record { v4 = v4_asks; v6 = v6_asks }
