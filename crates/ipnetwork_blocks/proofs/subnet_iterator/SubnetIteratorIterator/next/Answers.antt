use Rattle.ipnetwork_blocks.proofs.Known.{ℕ, sym, ◌∙◌, Network, IsRun, same_network, other_network, Steps, step_at_last, step_before_last, run_of, list_of}
use Rattle.ipnetwork_blocks.proofs.BlockRuns.{list_falls}
use Rattle.ipnetwork_blocks.proofs.subnet_iterator.SubnetIteratorIterator.next.Given.{Over}
use Rattle.ipnetwork_blocks.proofs.subnet_iterator.SubnetIteratorIterator.next.Goals as goal
use Rattle.ipnetwork_blocks.proofs.subnet_iterator.SubnetIteratorIterator.next.Goals.{Joined-eq, then-eq, else-eq}

-- how the step changes the run
steps : (g : Over) (c : Joined-eq g) → Steps g.N.CidrNetwork.WIDTH g.N.CidrNetwork.pair
    (g.N.CidrNetwork.pair c.in_ok-item.item) (g.N.CidrNetwork.pair c.self.inside.last) c.if-eq.self
steps g c =
    let w : ℕ = g.N.CidrNetwork.WIDTH in
    let pair = g.N.CidrNetwork.pair in
    let f : Network = pair c.in_ok-item.item in
    let l : Network = pair c.self.inside.last in
    let run : IsRun w f l = run_of w pair c.self.inside.next c.in_ok-item.item l c.in_ok-item.was c.self.invariant in
    elim c.if-eq.branch [
      | then-eq v ↦ step_at_last w pair f l c.if-eq.self run
          (same_network g.N.PartialEq.eq g.N.Ord.cmp pair g.met.N.Ord.matches_eq g.met.N.CidrNetwork.network_order
          c.in_ok-item.item c.self.inside.last c.eq.result c.eq.ensures v.if-eq.true)
          v.self-is
      | else-eq v ↦ step_before_last w pair f l c.if-eq.self v.following-self-inside.result run
          (other_network g.N.PartialEq.eq g.N.Ord.cmp pair g.met.N.Ord.matches_eq g.met.N.CidrNetwork.network_order
          c.in_ok-item.item c.self.inside.last c.eq.result c.eq.ensures v.if-eq.false
          run.as_long)
          v.self-is v.following-self-inside.ensures
    ]

pub invariant_of-self : goal.invariant_of-self
invariant_of-self g c = (steps g (goal.at.invariant_of-self g c).Joined-eq).ends

pub returns-clause-steps : goal.returns-clause-steps
returns-clause-steps g c =
    sym c.self.view_is ∙ list_of g.N.CidrNetwork.WIDTH g.N.CidrNetwork.pair c.self.inside.next c.if-eq.self
    c.in_ok-item.item (g.N.CidrNetwork.pair c.self.inside.last) c.in_ok-item.was
    (steps g (goal.at.returns-clause-steps g c).Joined-eq)

pub returns-clause-goes : goal.returns-clause-goes
returns-clause-goes g c = list_falls c.args.self.now _ (g.N.CidrNetwork.pair c.in_ok-item.item) c.in_ok-item.item
    (returns-clause-steps g c)
