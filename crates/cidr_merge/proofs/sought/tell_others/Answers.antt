use Rattle.cidr_merge.proofs.Known.{ap, map, list_any, numbered_lines, line_is_other, any_more}
use Rattle.cidr_merge.proofs.sought.tell_others.Goals as goal

pub loop-line-init : goal.loop-line-init
loop-line-init g c = ap (list_any line_is_other) c.of-lines.ensures.lines

pub loop-line-preserved : goal.loop-line-preserved
loop-line-preserved g c =
    any_more line_is_other (numbered_lines 0 (map (λ text. text.items) c.args.lists.now.texts.now)) _ _ _
    c.loop-line.told c.tell_other-more.result c.either-told.result
    c.loop-line.invariant c.in-Some.ensures.line c.tell_other-more.ensures c.either-told.ensures
