use Rattle.cidr_merge.proofs.Known.{map, sought_in, has_other, search_ended}
use Rattle.cidr_merge.proofs.find.search.Goals as goal

pub returns : goal.returns
returns g c =
    let reported = c.search_lists-reported in
    search_ended c.args.lists.now.rules (sought_in c.args.query.now) (has_other (map (λ text. text.items) c.args.froms.now.texts.now))
    c.args.lists.now.names.now (map (λ text. text.items) c.args.lists.now.texts.now)
    c.args.output.now reported.new.output c.finish-written.new.self c.finish-written.result reported.result.printed
    c.either.result c.status-status.result c.end.result reported.ensures.printed
    (rw (c.tell_others-told.ensures, reported.ensures.told) at c.either.ensures)
    c.status-status.ensures c.finish-written.ensures.ok c.finish-written.ensures.err c.finish-written.ensures.works c.finish-written.ensures.failed
    c.finish-written.ensures.stays
    c.end.ensures
