use Rattle.ipnetwork_index.proofs.Known.{◌≡◌, ℕ, ◌++◌, ◌∙◌, ap, sym, map, arith, low, before, next_taken, edges_put, mid_some, mid_none}
use Rattle.ipnetwork_index.proofs.edges.edges_of.Goals.{in-Some+in_ok-push, in_default}
use Rattle.ipnetwork_index.proofs.edges.edges_of.Goals as goal

pub loop-entry-preserved : goal.loop-entry-preserved
loop-entry-preserved g c =
    let f = g.N.CidrNetwork.number in
    let pair = g.N.CidrNetwork.pair in
    let w : ℕ = g.N.CidrNetwork.WIDTH in
    let i = c.loop-entry.entry-index in
    let es = c.args.entries.now in
    let e = c.entry-item.result in
    let old = c.loop-entry.edges.items in
    let mid = c.match-previous_address.edges.items in
    let put : map f mid ≡ map f old ++ before (low w (pair e.0))
    = elim c.match-previous_address.branch [
      | in-Some+in_ok-push v ↦
          mid_some f pair w es i e old mid v.in-Some.before
          (ap (λ x. x.items) v.edges-is ∙ v.in_ok-push.ensures.items)
          (v.in-Some.ensures ∙ c.network.ensures)
      | in_default v ↦
          mid_none f pair w es i e old mid (ap (λ x. x.items) v.edges-is)
          (sym c.network.ensures ∙ v.in_default.ensures)
    ] in
    edges_put f pair w es i e old mid c.push-in-loop-entry.new.self.items c.broadcast.result
    (next_taken es i e (omega arith) c.entry-item.is) c.loop-entry.invariant put
    c.in_ok-push-2.ensures.items c.broadcast.ensures
