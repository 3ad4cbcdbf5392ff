use Rattle.cidr_merge.proofs.Known.{refl}
use Rattle.cidr_merge.proofs.printing.print.Goals as goal

pub returns-in-Blocks : goal.returns-in-Blocks
returns-in-Blocks g c = rw c.in-Blocks.is c.print_blocks.ensures

pub returns-in-Ranges : goal.returns-in-Ranges
returns-in-Ranges g c = rw c.in-Ranges.is c.print_ranges.ensures

pub returns-in-Counts : goal.returns-in-Counts
returns-in-Counts g c = rw c.in-Counts.is c.print_counts.ensures

pub returns-in-Exported : goal.returns-in-Exported
returns-in-Exported g c =
    rw c.in-Exported.is (_, (_, _, c.of-v4.ensures.left, c.of-v6.ensures.left, refl), c.print_export.ensures)
