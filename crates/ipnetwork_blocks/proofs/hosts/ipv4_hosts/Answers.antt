use Rattle.ipnetwork_blocks.proofs.Known.{◌≡◌, ◌≤◌, ◌∙◌, arith, low, high, ipv4_between, two_members}
use Rattle.ipnetwork_blocks.proofs.hosts.ipv4_hosts.Goals as goal

pub overflow_sub-result-2 : goal.overflow_sub-result-2
overflow_sub-result-2 c =
    let n = c.args.network in
    let short : n.prefix ≤ 30 = omega (arith, c.if-prefix-gt30.false, c.prefix.ensures.made) in
    let last : c.from-last.result ≡ high 32 n = c.from-last.ensures ∙ c.broadcast.ensures in
    omega (arith, last, two_members 32 n (omega arith))

pub overflow_sub-result-4 : goal.overflow_sub-result-4
overflow_sub-result-4 c =
    let n = c.args.network in
    let short : n.prefix ≤ 30 = omega (arith, c.if-prefix-gt30.false, c.prefix.ensures.made) in
    let first : c.from-first.result ≡ low 32 n = c.from-first.ensures ∙ c.network.ensures.least in
    let last : c.from-last.result ≡ high 32 n = c.from-last.ensures ∙ c.broadcast.ensures in
    omega (arith, first, last, two_members 32 n (omega arith))

pub returns : goal.returns
returns c =
    let n = c.args.network in
    let short : n.prefix ≤ 30 = omega (arith, c.if-prefix-gt30.false, c.prefix.ensures.made) in
    ipv4_between n c.from-first.result c.from-last.result short (c.from-first.ensures ∙ c.network.ensures.least)
    (c.from-last.ensures ∙ c.broadcast.ensures)
