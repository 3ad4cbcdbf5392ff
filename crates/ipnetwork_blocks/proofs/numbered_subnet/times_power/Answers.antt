use Rattle.ipnetwork_blocks.proofs.Known.{few_shifted}
use Rattle.ipnetwork_blocks.proofs.numbered_subnet.times_power.Goals as goal

pub overflow_shl-result : goal.overflow_shl-result
overflow_shl-result c = few_shifted c.args.number c.args.exponent c.if-number-eq0.false c.requires
