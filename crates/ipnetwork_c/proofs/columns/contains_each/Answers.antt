use Rattle.ipnetwork_c.proofs.Known.{arith, from_bool, is_member, row_written}
use Rattle.ipnetwork_c.proofs.columns.contains_each.Goals as goal

pub loop-row-preserved : goal.loop-row-preserved
loop-row-preserved g c =
    row_written (λ octets. from_bool
    (is_member g.N.CidrNetwork.WIDTH (g.H.HoldsNetwork.held c.args.network) (g.H.Numbered.meant octets)))
    c.args.addresses.now c.index-addresses-row.result c.args.answers.now c.loop-row.answers c.loop-row.row
    c.flag.result
    (omega arith) (omega arith) c.index-addresses-row.is c.loop-row.invariant c.flag.ensures
