use Rattle.cidr.proofs.Known.{parts_after_routes, splits, parts_alone}
use Rattle.cidr.proofs.laws.outputs.split_at_line_ends.Goals as goal

pub returns : goal.returns
returns c = record { parts = splits; alone = parts_alone; asked = parts_after_routes }
