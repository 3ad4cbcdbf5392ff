use Rattle.cidr_join.proofs.Known.{take, flat_map, CountsTexts, named_by, repeated}
use Rattle.cidr_join.proofs.counts.count_each.Given as goal

abbrev pub invariant-loop-place : goal.invariant-loop-place
invariant-loop-place l = CountsTexts (flat_map (named_by l.zeros) (take l.place l.founds))
    (repeated (take l.place l.founds) (take l.place l.numbers)) l.initial.tally.counts l.tally.counts
