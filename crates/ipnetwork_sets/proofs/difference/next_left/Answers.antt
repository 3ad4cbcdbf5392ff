use Rattle.ipnetwork_sets.proofs.Known.{ℕ, Option, map, ◌∙◌, arith, option_map, length-map, Network, contains_head, set_block, takes_state, takes_falls, count_of_mapped, ends_in_whole, takes_block, takes_whole_part}
use Rattle.ipnetwork_sets.proofs.LeftSets.{no_part}
use Rattle.ipnetwork_sets.proofs.difference.next_left.Goals as goal

pub returns-in_default : goal.returns-in_default
returns-in_default g c =
    let w : ℕ = g.N.CidrNetwork.WIDTH in
    let at_hand : Option (Network × ℕ) =
    option_map (λ p. (g.N.CidrNetwork.pair p.whole, (g.N.CidrNetwork.pair p.next).address)) c.loop-part.at_hand in
    c.loop-part.invariant.same ∙ no_part w at_hand (map g.H.HoldsNetwork.held c.loop-part.rest.now)
    (map g.H.HoldsNetwork.held c.loop-part.cut.now) c.in_default.ensures

pub first_free_range-requires : goal.first_free_range-requires
first_free_range-requires g c =
    let w : ℕ = g.N.CidrNetwork.WIDTH in
    let at_hand : Option (Network × ℕ) =
    option_map (λ p. (g.N.CidrNetwork.pair p.whole, (g.N.CidrNetwork.pair p.next).address)) c.loop-part.at_hand in
    let part : Network × ℕ =
    (g.N.CidrNetwork.pair c.in-Some.part.whole, (g.N.CidrNetwork.pair c.in-Some.part.next).address) in
    let state = takes_state w at_hand (map g.H.HoldsNetwork.held c.loop-part.rest.now)
    (map g.H.HoldsNetwork.held c.loop-part.cut.now) part
    (map g.H.HoldsNetwork.held c.in-Some.after.now) c.loop-part.invariant.state c.in-Some.ensures.1 in
    record {
      whole = set_block w _ part.0 state.0 (contains_head part.0 _);
      from = rw c.ip.ensures.made state.2;
      set = (c.loop-part.invariant.cut, state.1);
    }

pub part_behind-next-requires-clause-whole : goal.part_behind-next-requires-clause-whole
part_behind-next-requires-clause-whole g c =
    let w : ℕ = g.N.CidrNetwork.WIDTH in
    let at_hand : Option (Network × ℕ) =
    option_map (λ p. (g.N.CidrNetwork.pair p.whole, (g.N.CidrNetwork.pair p.next).address)) c.loop-part.at_hand in
    let part : Network × ℕ =
    (g.N.CidrNetwork.pair c.in-Some.part.whole, (g.N.CidrNetwork.pair c.in-Some.part.next).address) in
    let state = takes_state w at_hand (map g.H.HoldsNetwork.held c.loop-part.rest.now)
    (map g.H.HoldsNetwork.held c.loop-part.cut.now) part
    (map g.H.HoldsNetwork.held c.in-Some.after.now) c.loop-part.invariant.state c.in-Some.ensures.1 in
    set_block w _ part.0 state.0 (contains_head part.0 _)

pub part_behind-next-requires-clause-within : goal.part_behind-next-requires-clause-within
part_behind-next-requires-clause-within g c =
    let free = rw c.in-Some-free.is at c.first_free_range.ensures.free in
    ends_in_whole g.N.CidrNetwork.WIDTH (g.N.CidrNetwork.pair c.in-Some.part.whole) _ _ _ _ free.0
    c.widest_block-block.ensures.maximal

pub returns-in-Some-free : goal.returns-in-Some-free
returns-in-Some-free g c =
    let held = g.H.HoldsNetwork.held in
    let free = rw c.ip.ensures.made at (rw c.in-Some-free.is at c.first_free_range.ensures.free) in
    let given = takes_block g.N.CidrNetwork.WIDTH _
    (option_map (λ p. (g.N.CidrNetwork.pair p.whole, (g.N.CidrNetwork.pair p.next).address)) c.loop-part.at_hand)
    (map held c.loop-part.rest.now)
    (map held c.loop-part.cut.now)
    (g.N.CidrNetwork.pair c.in-Some.part.whole, (g.N.CidrNetwork.pair c.in-Some.part.next).address)
    (map held c.in-Some.after.now)
    (map held c.first_free_range.result.1.now) c.one_block.ensures.apart c.loop-part.invariant.same
    c.loop-part.invariant.state c.in-Some.ensures.1 c.first_free_range.ensures.set.1
    _ _ (g.N.CidrNetwork.pair c.widest_block-block.result) free.0 free.1 c.widest_block-block.ensures.begins
    c.widest_block-block.ensures.maximal
    c.one_block.ensures.one c.one_block.ensures.networks
    (option_map (λ p. (g.N.CidrNetwork.pair p.whole, (g.N.CidrNetwork.pair p.next).address)) c.part_behind-next.result)
    c.part_behind-next.ensures in
    (c.in-Some.ensures.0, c.first_free_range.ensures.set.0, given.0, given.1)

pub loop-part-smaller : goal.loop-part-smaller
loop-part-smaller g c =
    let at_hand : Option (Network × ℕ) =
    option_map (λ p. (g.N.CidrNetwork.pair p.whole, (g.N.CidrNetwork.pair p.next).address)) c.loop-part.at_hand in
    let part : Network × ℕ =
    (g.N.CidrNetwork.pair c.in-Some.part.whole, (g.N.CidrNetwork.pair c.in-Some.part.next).address) in
    let falls = takes_falls at_hand (map g.H.HoldsNetwork.held c.loop-part.rest.now) part
    (map g.H.HoldsNetwork.held c.in-Some.after.now) c.in-Some.ensures.1 in
    let count = count_of_mapped {Y = Network × ℕ}
    (λ p. (g.N.CidrNetwork.pair p.whole, (g.N.CidrNetwork.pair p.next).address)) c.loop-part.at_hand in
    let size = length-map c.loop-part.rest.now g.H.HoldsNetwork.held in
    let size_after = length-map c.in-Some.after.now g.H.HoldsNetwork.held in
    omega (arith, falls, count, size, size_after)

pub loop-part-preserved : goal.loop-part-preserved
loop-part-preserved g c =
    let held = g.H.HoldsNetwork.held in
    let at_hand : Option (Network × ℕ) =
    option_map (λ p. (g.N.CidrNetwork.pair p.whole, (g.N.CidrNetwork.pair p.next).address)) c.loop-part.at_hand in
    let part : Network × ℕ =
    (g.N.CidrNetwork.pair c.in-Some.part.whole, (g.N.CidrNetwork.pair c.in-Some.part.next).address) in
    let i = c.loop-part.invariant in
    let passed = takes_whole_part g.N.CidrNetwork.WIDTH _ at_hand (map held c.loop-part.rest.now)
    (map held c.loop-part.cut.now) part (map held c.in-Some.after.now)
    (map held c.first_free_range.result.1.now) c.one_block.ensures.apart i.same i.state c.in-Some.ensures.1
    c.first_free_range.ensures.set.1
    (rw c.ip.ensures.made at (rw c.in_default-free.is at c.first_free_range.ensures.free)) in
    record { rest = c.in-Some.ensures.0; cut = c.first_free_range.ensures.set.0; state = passed.0; same = passed.1 }
