use Rattle.cidr_merge.proofs.Known.{all_left, ap, count_number}
use Rattle.cidr_merge.proofs.usage.count_left.Goals as goal

pub returns-in_default : goal.returns-in_default
returns-in_default c =
    all_left (count_number c.args.used) c.args.host_bits (ap count_number c.in_default.is) c.requires.within
    c.requires.bits
