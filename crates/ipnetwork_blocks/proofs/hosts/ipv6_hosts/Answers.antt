use Rattle.ipnetwork_blocks.proofs.Known.{arith, ipv6_rest}
use Rattle.ipnetwork_blocks.proofs.hosts.ipv6_hosts.Goals as goal

pub returns-then-prefix-le126 : goal.returns-then-prefix-le126
returns-then-prefix-le126 c = ipv6_rest c.args.network c.next.result c.iter-members.result c.next.new.self
    (omega (arith, c.if-prefix-le126.true, c.prefix.ensures.made)) c.iter-members.ensures
    c.next.ensures.steps
