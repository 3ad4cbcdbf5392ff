use Rattle.ipnetwork_addr.proofs.Known.{arith, common_steps, groups_pushed}
use Rattle.ipnetwork_addr.proofs.hexadecimal.push_groups.Goals as goal

pub returns-after-loop-group-clause-bytes : goal.returns-after-loop-group-clause-bytes
returns-after-loop-group-clause-bytes c =
    groups_pushed _ _ _ c.args.groups.now _ c.loop-group.group-index (grind (arith, common_steps)) (omega arith)
    c.push_hex.ensures.bytes c.loop-group-test.false c.loop-group.invariant.0
