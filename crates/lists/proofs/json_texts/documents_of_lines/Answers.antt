use Rattle.lists.proofs.Known.{◌≡◌, ◌∙◌, List, [], ◌∷◌, ap, sym, arith, length, length-map, map, map_push, append-nil, view, lines, YieldsList-end, YieldsList-from_lines, YieldsList-so_far, YieldsList-turn, line_added, none_read, pushed_last, some_read, stops_at_line}
use Rattle.lists.proofs.json_texts.documents_of_lines.Goals as goal

pub loop-line-preserved-in-Ok-None : goal.loop-line-preserved-in-Ok-None
loop-line-preserved-in-Ok-None c =
    line_added (λ line. line.now) c.loop-line.yielded c.in-Some.line (map view c.loop-line.documents.items) []
    (map view c.loop-line.documents.items) c.loop-line.invariant (rw c.in-Ok-None.field-0-is at c.in-Ok-None.ensures.ok)
    (sym (append-nil (map view c.loop-line.documents.items)))

pub loop-line-preserved : goal.loop-line-preserved
loop-line-preserved c =
    let items = c.loop-line.documents.items in
    let document = c.in-Ok-Some.document in
    line_added (λ line. line.now) c.loop-line.yielded c.in-Some.line (map view items) (view document ∷ [])
    (map view c.push.new.self.items) c.loop-line.invariant (rw c.in-Ok-Some.field-0-is at c.in-Ok-Some.ensures.ok)
    (ap (map view) (pushed_last c.push.result items c.push.new.self.items document
    (sym c.is_err.ensures.value ∙ c.if-is_err.false) c.push.ensures.items) ∙ map_push view items document)

pub returns-in-Err-clause-err : goal.returns-in-Err-clause-err
returns-in-Err-clause-err c =
    let road = YieldsList-from_lines c.args.text.now cc in
    let turn = YieldsList-turn road c.loop-line.yielded _ c.loop-line.yielded_by _ _ c.in-Some.line c.in-Some.is
    c.next.ensures.steps in
    stops_at_line c.args.text.now (map (λ line. line.now) c.loop-line.yielded) c.in-Some.line.now c.in-Some.line.now
    (length c.loop-line.yielded) (YieldsList-so_far road c.loop-line.yielded _ c.loop-line.yielded_by)
    (turn.0, turn.1) c.in-Err.fault c.in-Err.ensures.err

pub returns-then-is_empty-2-clause-err : goal.returns-then-is_empty-2-clause-err
returns-then-is_empty-2-clause-err c =
    let seen = YieldsList-end (YieldsList-from_lines c.args.text.now cc) c.loop-line.yielded _ c.loop-line.yielded_by _
    _ c.in-None.is c.next.ensures.steps in
    none_read c.args.text.now (map (λ line. line.now) c.loop-line.yielded) (map view c.loop-line.documents.items) seen.0
    c.loop-line.invariant (grind (arith, length-map c.loop-line.documents.items view, c.loop-line.documents.ok.0, c.is_empty-2.ensures, c.if-is_empty-2.true))

pub returns-clause-ok : goal.returns-clause-ok
returns-clause-ok c =
    let seen = YieldsList-end (YieldsList-from_lines c.args.text.now cc) c.loop-line.yielded _ c.loop-line.yielded_by _
    _ c.in-None.is c.next.ensures.steps in
    some_read c.args.text.now (map (λ line. line.now) c.loop-line.yielded) (map view c.loop-line.documents.items) seen.0
    c.loop-line.invariant (grind (arith, length-map c.loop-line.documents.items view, c.loop-line.documents.ok.0, c.is_empty-2.ensures, c.if-is_empty-2.false))
