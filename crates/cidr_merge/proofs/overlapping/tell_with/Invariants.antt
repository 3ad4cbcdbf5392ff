use Rattle.cidr_merge.proofs.Known.{map, take, concat, Reports, pair_text, listed_as}
use Rattle.cidr_merge.proofs.overlapping.tell_with.Given as goal

abbrev pub invariant-loop-index : goal.invariant-loop-index
invariant-loop-index g l =
    Reports l.initial.output l.output (concat (map (pair_text l.names (listed_as l.later))
    (map listed_as (take l.index l.before))))
