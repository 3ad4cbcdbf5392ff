use Rattle.ipnetwork_c.proofs.Known.{◌≡◌, ℕ, ◌+◌, [], ◌∷◌, ap, refl, sym, subst, ◌∙◌, arith, Network, IsWrittenUpTo, ends_one, ends_two, put_more, written_more}
use Rattle.ipnetwork_c.proofs.range_making.put_ends.Goals as goal

pub returns-in-Some-clause-written : goal.returns-in-Some-clause-written
returns-in-Some-clause-written g c =
    let e : c.args.count + 1 + 1 ≡ c.args.count + 2 = omega arith in
    let first = c.put_first.new.ranges in
    let second = c.put_first-in-Some.new.ranges in
    written_more c.args.ranges.now first second (c.args.count + 1) (c.args.count + 2) c.put_first.ensures.written
    (subst (λ (k : ℕ). IsWrittenUpTo first second k) e c.put_first-in-Some.ensures.written) (omega arith)

pub returns-in-Some-clause-ends : goal.returns-in-Some-clause-ends
returns-in-Some-clause-ends g c =
    let n : Network = g.N.CidrNetwork.pair c.args.block in
    let one = c.put_first.ensures.put in
    let two = c.put_first-in-Some.ensures.put in (
      one.0 ∷ two.0 ∷ [],
      ends_two g.N.CidrNetwork.WIDTH g.H.HoldsNetwork.holds g.H.HoldsNetwork.held n one.0 two.0 c.prefix.ensures.network
          one.1 (one.2 ∙ c.network.ensures) two.1 (two.2 ∙ c.in-Some.ensures.1 ∙ ap (λ k. k + 1) c.broadcast.ensures),
      put_more c.args.ranges.now c.put_first.new.ranges c.put_first-in-Some.new.ranges c.args.count (c.args.count + 2)
          one.0 two.0 one.3 two.3 refl,
    )

pub returns-in-None-clause-ends : goal.returns-in-None-clause-ends
returns-in-None-clause-ends g c =
    let n : Network = g.N.CidrNetwork.pair c.args.block in
    let one = c.put_first.ensures.put in (
      one.0 ∷ [],
      ends_one g.N.CidrNetwork.WIDTH g.H.HoldsNetwork.holds g.H.HoldsNetwork.held n one.0 c.prefix.ensures.network one.1
          (one.2 ∙ c.network.ensures) (ap (λ k. k + 1) (sym c.broadcast.ensures) ∙ c.in-None.ensures),
      one.3,
    )
