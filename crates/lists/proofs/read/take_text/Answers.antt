use Rattle.lists.proofs.Known.{List, ℕ, subst, YieldsList-end, YieldsList-from_lines, asked, at_list, Takes, TakesLines, takes_more}
use Rattle.lists.proofs.read.take_text.Goals as goal

pub loop-line-preserved : goal.loop-line-preserved
loop-line-preserved c =
    takes_more (λ line. line.now) _ _ _ c.loop-line.yielded c.in-Some.line c.loop-line.invariant
    (subst (λ (bytes : List ℕ). Takes c.loop-line.lists (asked 1024 bytes) c.read_line.new.lists)
    c.as_bytes.ensures.value c.read_line.ensures)

pub returns : goal.returns
returns c =
    let seen = YieldsList-end (YieldsList-from_lines c.args.text.now cc) c.loop-line.yielded _ c.loop-line.yielded_by _
    _ c.in-None.is c.next.ensures.steps in
    subst (λ ls. TakesLines (at_list c.args.lists.now c.args.list) ls c.loop-line.lists) seen.0 c.loop-line.invariant
