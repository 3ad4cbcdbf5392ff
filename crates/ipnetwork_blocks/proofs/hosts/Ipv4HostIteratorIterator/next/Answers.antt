use Rattle.ipnetwork_blocks.proofs.Known.{arith, list_falls, one_taken}
use Rattle.ipnetwork_blocks.proofs.HostLists.{none_left}
use Rattle.ipnetwork_blocks.proofs.hosts.Ipv4HostIteratorIterator.next.Goals as goal

pub returns-then-self-eq0-clause-steps : goal.returns-then-self-eq0-clause-steps
returns-then-self-eq0-clause-steps c =
    let none = none_left c.self.inside.last c.self.inside.count c.args.self.now c.self.view_is c.if-self-eq0.true in
    (none, none)

pub returns-clause-steps : goal.returns-clause-steps
returns-clause-steps c = one_taken c.self.inside.last c.self.inside.count c.from.result c.args.self.now c.self.view_is
    c.self.invariant (omega (arith, c.if-self-eq0.false)) c.from.ensures

pub returns-clause-goes : goal.returns-clause-goes
returns-clause-goes c = list_falls c.args.self.now _ c.from.result (returns-clause-steps c)
