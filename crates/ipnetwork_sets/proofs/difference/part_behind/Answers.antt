use Rattle.ipnetwork_sets.proofs.Known.{arith, iff_false, has_ends}
use Rattle.ipnetwork_sets.proofs.difference.part_behind.Goals as goal

pub unreachable-requires : goal.unreachable-requires
unreachable-requires g c =
    let w = g.N.CidrNetwork.WIDTH in
    let fits = (has_ends w (g.N.CidrNetwork.pair c.args.whole) c.requires.whole.network).high_is_member.0 in
    let within = c.requires.within in
    iff_false c.ends_at.ensures c.if-ends_at.false
    (omega (arith, fits, within, c.broadcast-last.ensures, c.in_default.ensures))
