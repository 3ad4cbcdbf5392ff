use Rattle.cidr_filter.proofs.Known.{◌∙◌, sym, subst, Written, device_of, has_failed, StopsLog, TakesLog, FiltersLog, Outcome, name_missed, name_filtered, count_failed, name_stops, put_ok, put_not}
use Rattle.cidr_filter.proofs.logs.filter_one.Goals as goal

pub returns-in-Err-clause-logs : goal.returns-in-Err-clause-logs
returns-in-Err-clause-logs g c =
    let known = g.L.OpenLists.known c.args.lists.now in
    subst (λ (o : Outcome). TakesLog (FiltersLog c.args.filter.now known) c.args.name.now c.args.output.now c.args.total
    c.args.output.now o) (sym c.with.ensures)
    (name_missed c.args.filter.now known c.args.name.now c.args.total c.args.output.now c.in-Err.ensures.opened)

-- ---- a log that was opened

pub filter_log-end-requires-clause-unread : goal.filter_log-end-requires-clause-unread
filter_log-end-requires-clause-unread g c = c.new-lines.ensures.begins

pub filter_log-end-requires-clause-hurries : goal.filter_log-end-requires-clause-hurries
filter_log-end-requires-clause-hurries g c = c.new-lines.ensures.hurries ∙ c.refuses.ensures

pub returns-then-is_ok-clause-logs : goal.returns-then-is_ok-clause-logs
returns-then-is_ok-clause-logs g c =
    let remaining = g.L.List.Read.remaining in
    rw (c.with-then-is_ok.ensures, c.is_missed.ensures)
    (name_filtered c.args.filter.now (g.L.OpenLists.known c.args.lists.now) c.args.name.now c.args.total
    (remaining (device_of c.in-Ok.log)) c.in-Ok.ensures.bytes c.in-Ok.ensures.opened
    (has_failed c.filter_log-end.new.reader) c.args.output.now c.filter_log-end.new.output c.put_count.new.output
    c.filter_log-end.new.tally c.in-Ok-end.reached
    (rw (c.replace-before.ensures.after, c.new.ensures, c.label_of-label.ensures, c.new-tally.ensures) at
    c.in-Ok-end.ensures)
    (put_ok _ _ _ c.put_count.result (rw (c.counts.ensures, c.label_of-label.ensures) at c.put_count.ensures)
    (sym c.is_ok.ensures.value ∙ c.if-is_ok.true)))

pub returns-else-is_ok-clause-logs : goal.returns-else-is_ok-clause-logs
returns-else-is_ok-clause-logs g c =
    let remaining = g.L.List.Read.remaining in
    let known = g.L.OpenLists.known c.args.lists.now in
    let unput = put_not _ _ _ c.put_count.result (rw (c.counts.ensures, c.label_of-label.ensures) at
    c.put_count.ensures)
    (sym c.is_ok.ensures.value ∙ c.if-is_ok.false) in
    subst (λ (o : Written g.row.W.Denot). StopsLog (FiltersLog c.args.filter.now known) known c.args.name.now
    c.args.output.now c.args.total o) (sym c.stop.ensures)
    (count_failed c.args.filter.now known c.args.name.now c.args.total (remaining (device_of c.in-Ok.log))
    c.in-Ok.ensures.bytes c.in-Ok.ensures.opened (has_failed c.filter_log-end.new.reader) c.args.output.now
    c.filter_log-end.new.output c.put_count.new.output c.filter_log-end.new.tally c.in-Ok-end.reached
    (rw (c.replace-before.ensures.after, c.new.ensures, c.label_of-label.ensures, c.new-tally.ensures) at
    c.in-Ok-end.ensures)
    unput.0 unput.1)

pub returns-in-Err-end-clause-logs : goal.returns-in-Err-end-clause-logs
returns-in-Err-end-clause-logs g c =
    let remaining = g.L.List.Read.remaining in
    name_stops c.args.filter.now (g.L.OpenLists.known c.args.lists.now) c.args.name.now c.args.total
    (remaining (device_of c.in-Ok.log)) c.in-Ok.ensures.bytes c.in-Ok.ensures.opened
    (has_failed c.filter_log-end.new.reader) c.args.output.now c.filter_log-end.new.output c.stop-in-Err-end.new.output
    c.filter_log-end.new.tally c.close.ensures.failed c.in-Err-end.fault
    (rw (c.replace-before.ensures.after, c.new.ensures, c.label_of-label.ensures, c.new-tally.ensures) at
    c.in-Err-end.ensures)
    c.stop-in-Err-end.ensures
