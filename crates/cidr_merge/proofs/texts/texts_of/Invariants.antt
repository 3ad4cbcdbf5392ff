use Rattle.cidr_merge.proofs.Known.{map, take, AreTexts, whole}
use Rattle.cidr_merge.proofs.texts.texts_of.Given as goal

abbrev pub invariant-loop-place : goal.invariant-loop-place
invariant-loop-place g l =
    AreTexts (whole (g.L.OpenLists.known l.context.lists.now) l.is_whole) (take l.place l.names)
    (map (λ text. text.items) l.texts.items)
