use Rattle.cidr_merge.proofs.Known.{◌∙◌, ◌++◌, false, map, ends_findings, lists_findings, all_written, status_is, tells_both}
use Rattle.cidr_merge.proofs.inspecting.check.Goals as goal

pub returns : goal.returns
returns g c =
    let wrong = c.check_lists-wrong in
    let cut = c.check_ends-cut in
    let texts = map (λ text. text.items) c.args.lists.now.texts.now in
    let first = lists_findings c.args.lists.now.rules false c.args.lists.now.names.now texts in
    let last = ends_findings c.args.lists.now.rules c.args.lists.now.names.now texts in
    let both = tells_both first last c.args.output.now wrong.new.output cut.new.output wrong.result cut.result
    c.either.result wrong.ensures cut.ensures c.either.ensures in
    all_written (first ++ last) c.args.output.now cut.new.output c.finish-written.new.self c.finish-written.result
    c.status.result _ c.end.result both.0 (c.status.ensures ∙ status_is (first ++ last) c.either.result both.1)
    c.finish-written.ensures.ok c.finish-written.ensures.err c.finish-written.ensures.works c.finish-written.ensures.failed
    c.finish-written.ensures.stays c.end.ensures
