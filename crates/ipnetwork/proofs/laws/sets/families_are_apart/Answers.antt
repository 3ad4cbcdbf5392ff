use Rattle.ipnetwork.proofs.Known.{no_subnet_v4, no_subnet_v6, no_overlap_v4}
use Rattle.ipnetwork.proofs.laws.sets.families_are_apart.Goals as goal

pub returns : goal.returns
returns c a b h k =
    record { not_inside = no_subnet_v4 a b h; not_around = no_subnet_v6 b a k; no_overlap = no_overlap_v4 a b }
