use Rattle.ipnetwork_sets.proofs.Known.{◌≡◌, ◌+◌, length, map, All, option_map, left_blocks, IsAtHand, count_at_hand}
use Rattle.ipnetwork_sets.proofs.difference.next_left.Given as goal

abbrev pub invariant-loop-part : goal.invariant-loop-part
invariant-loop-part g l = record {
  rest : All g.H.HoldsNetwork.holds l.rest;
  cut : All g.H.HoldsNetwork.holds l.cut;
  state : IsAtHand g.N.CidrNetwork.WIDTH
      (option_map (λ p. (g.N.CidrNetwork.pair p.whole, (g.N.CidrNetwork.pair p.next).address)) l.at_hand)
      (map g.H.HoldsNetwork.held l.rest) (map g.H.HoldsNetwork.held l.cut);
  same : left_blocks g.N.CidrNetwork.WIDTH
      (option_map (λ p. (g.N.CidrNetwork.pair p.whole, (g.N.CidrNetwork.pair p.next).address)) l.initial.at_hand)
      (map g.H.HoldsNetwork.held l.initial.rest) (map g.H.HoldsNetwork.held l.initial.cut)
      ≡ left_blocks g.N.CidrNetwork.WIDTH
      (option_map (λ p. (g.N.CidrNetwork.pair p.whole, (g.N.CidrNetwork.pair p.next).address)) l.at_hand)
      (map g.H.HoldsNetwork.held l.rest) (map g.H.HoldsNetwork.held l.cut);
}

abbrev pub decreases-loop-part : goal.decreases-loop-part
decreases-loop-part g l = length l.rest + count_at_hand l.at_hand
