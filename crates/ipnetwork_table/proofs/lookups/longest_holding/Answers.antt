use Rattle.ipnetwork_table.proofs.Known.{◌<◌, arith, fewer_shared, last_is_longest, none_above_shared, none_above_used, none_near, none_used_holds}
use Rattle.ipnetwork_table.proofs.lookups.longest_holding.Goals as goal

pub returns-in_err-near-clause-answer : goal.returns-in_err-near-clause-answer
returns-in_err-near-clause-answer g c =
    let w = g.N.CidrNetwork.WIDTH in
    let x = g.N.CidrNetwork.number c.args.addr in
    let t = c.args.values.now in
    let pair = g.N.CidrNetwork.pair in
    let end = pair c.in-Some.end in
    rw c.from_residual.ensures
    (none_near w x c.shorter.most t c.requires.blocks c.in-Some.ensures.address c.shorter.invariant.within
    c.shorter.invariant.none_above end c.in-Some.ensures.cases.1 c.in_err-near.ensures.network)

pub returns-then-contains-clause-answer : goal.returns-then-contains-clause-answer
returns-then-contains-clause-answer g c =
    let w = g.N.CidrNetwork.WIDTH in
    let x = g.N.CidrNetwork.number c.args.addr in
    let t = c.args.values.now in
    let pair = g.N.CidrNetwork.pair in
    let end = pair c.in-Some.end in
    last_is_longest w x c.shorter.most t c.requires.blocks c.in-Some.ensures.address c.shorter.invariant.within
    c.shorter.invariant.none_above end c.in-Some.ensures.cases.1 (pair c.in_ok-near.near)
    c.in_ok-near.ensures.network c.in_ok-near.value c.in_ok-near.ensures.value
    (c.contains.ensures.0 c.if-contains.true)

pub returns-in_err-length-clause-answer : goal.returns-in_err-length-clause-answer
returns-in_err-length-clause-answer g c =
    let w = g.N.CidrNetwork.WIDTH in
    let x = g.N.CidrNetwork.number c.args.addr in
    let t = c.args.values.now in
    let pair = g.N.CidrNetwork.pair in
    let end = pair c.in-Some.end in
    rw c.from_residual-in_err-length.ensures
    (none_used_holds t c.args.used.now c.requires.lengths w x c.shared_length.result c.shared_length.type_inv
    (none_above_shared w x c.shorter.most t c.requires.blocks c.in-Some.ensures.address c.shorter.invariant.within
    c.shorter.invariant.none_above end c.in-Some.ensures.cases.1 (pair c.in_ok-near.near)
    c.in_ok-near.ensures.network c.shared_length.result
    c.shared_length.ensures.no_more) c.in_err-length.ensures)

pub shorter-smaller : goal.shorter-smaller
shorter-smaller g c =
    let w = g.N.CidrNetwork.WIDTH in
    let x = g.N.CidrNetwork.number c.args.addr in
    let t = c.args.values.now in
    let pair = g.N.CidrNetwork.pair in
    let end = pair c.in-Some.end in
    let fewer : c.shared_length.result < c.shorter.most =
    fewer_shared w x c.shorter.most t c.requires.blocks c.in-Some.ensures.address c.shorter.invariant.within
    c.shorter.invariant.none_above end c.in-Some.ensures.cases.1 (pair c.in_ok-near.near)
    c.in_ok-near.ensures.network c.shared_length.result
    c.shared_length.ensures.within c.shared_length.ensures.shared
    (λ holds. let yes = c.if-contains.ensures.1 holds in cc) in
    omega (arith, fewer, c.in_ok-length.ensures.0)

pub shorter-preserved : goal.shorter-preserved
shorter-preserved g c =
    let w = g.N.CidrNetwork.WIDTH in
    let x = g.N.CidrNetwork.number c.args.addr in
    let t = c.args.values.now in
    let pair = g.N.CidrNetwork.pair in
    let end = pair c.in-Some.end in
    let near = pair c.in_ok-near.near in
    let fewer : c.shared_length.result < c.shorter.most =
    fewer_shared w x c.shorter.most t c.requires.blocks c.in-Some.ensures.address c.shorter.invariant.within
    c.shorter.invariant.none_above end c.in-Some.ensures.cases.1 near c.in_ok-near.ensures.network c.shared_length.result
    c.shared_length.ensures.within c.shared_length.ensures.shared
    (λ holds. let yes = c.if-contains.ensures.1 holds in cc) in
    let length = c.in_ok-length.ensures in
    record {
      within = omega (arith, fewer, length.0, c.shorter.invariant.within);
      counted = omega (arith, fewer, length.0, c.shorter.invariant.counted, c.last_up_to.ensures.counted);
      none_above = none_above_used t c.args.used.now c.requires.lengths w x c.shared_length.result
          c.in_ok-length.length c.shared_length.type_inv
          (none_above_shared w x c.shorter.most t c.requires.blocks c.in-Some.ensures.address
          c.shorter.invariant.within c.shorter.invariant.none_above end c.in-Some.ensures.cases.1 near
          c.in_ok-near.ensures.network c.shared_length.result c.shared_length.ensures.no_more) length;
    }
