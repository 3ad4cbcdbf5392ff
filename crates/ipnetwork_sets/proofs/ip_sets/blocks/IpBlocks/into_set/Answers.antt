use Rattle.ipnetwork_sets.proofs.Known.{sym, failed, too_little_v4, too_little_v6}
use Rattle.ipnetwork_sets.proofs.ip_sets.blocks.IpBlocks.into_set.Goals as goal

pub returns-in_err-v4-clause-room : goal.returns-in_err-v4-clause-room
returns-in_err-v4-clause-room g c =
    failed c.from_residual.result (too_little_v4 (g.V4.SetBlocks.left c.self.inside.v4)
    (g.V6.SetBlocks.left c.self.inside.v6) _ _ c.args.self (sym c.self.view_is) c.in_err-v4.ensures.room)

pub returns-in_err-v6-clause-room : goal.returns-in_err-v6-clause-room
returns-in_err-v6-clause-room g c =
    failed c.from_residual-in_err-v6.result (too_little_v6 (g.V4.SetBlocks.left c.self.inside.v4)
    (g.V6.SetBlocks.left c.self.inside.v6) _ _ c.args.self (sym c.self.view_is) c.in_err-v6.ensures.room)
