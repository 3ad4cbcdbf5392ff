use Rattle.lists.proofs.Known.{length}
use Rattle.lists.proofs.set_lines.+fits.Given as goal

abbrev pub decreases-fits : goal.decreases-fits
decreases-fits l = length l.pattern.now
