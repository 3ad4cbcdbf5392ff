use Rattle.lists.proofs.Known.{◌-◌}
use Rattle.lists.proofs.hint.shortened.Given as goal

abbrev pub decreases-octets : goal.decreases-octets
decreases-octets l = 4 - l.count
