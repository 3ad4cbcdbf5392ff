use Rattle.cidr_merge.proofs.Known.{drop, map, ends_findings, ToldSoFar}
use Rattle.cidr_merge.proofs.checking.check_ends.Given as goal

-- the findings for the other lists are left
abbrev pub invariant-loop-at : goal.invariant-loop-at
invariant-loop-at g l = ToldSoFar
    (ends_findings l.lists.rules l.lists.names.now (map (λ text. text.items) l.lists.texts.now))
    (ends_findings l.lists.rules (drop l.at l.lists.names.now) (map (λ text. text.items) (drop l.at l.lists.texts.now)))
    l.initial.output l.output l.found
