use Rattle.cidr_join.proofs.Known.{[], device_of, has_failed, counted_in, counting_stops, not_opened, read_all, counts_nothing}
use Rattle.cidr_join.proofs.tally_logs.tally_one.Goals as goal

pub returns-in-Err : goal.returns-in-Err
returns-in-Err g c = (
  [],
  counts_nothing c.args.numbered.now.founds.items c.args.counts.now,
  λ cut missed. not_opened c.args.join.now (g.L.OpenLists.known c.args.lists.now) c.args.name.now counted_in
      c.in-Err.ensures.opened cut missed,
)

pub returns-in-Ok-end : goal.returns-in-Ok-end
returns-in-Ok-end g c =
    let f = c.in-Ok-end.ensures in (
      f.marks,
      f.counts,
      λ cut missed. read_all c.args.join.now (g.L.OpenLists.known c.args.lists.now) c.args.name.now
          (g.L.List.Read.remaining (device_of c.in-Ok.log))
          c.in-Ok.ensures.bytes c.in-Ok.ensures.opened (has_failed c.tally_log-end.new.reader) counted_in tt f.marks
          c.tally_log-end.new.seen f.reads
          c.is_missed.result c.is_missed.ensures cut missed,
    )

pub returns-in-Err-end : goal.returns-in-Err-end
returns-in-Err-end g c =
    counting_stops c.args.join.now (g.L.OpenLists.known c.args.lists.now) c.args.name.now
    (g.L.List.Read.remaining (device_of c.in-Ok.log))
    c.in-Ok.ensures.bytes c.in-Ok.ensures.opened (has_failed c.tally_log-end.new.reader) c.close.ensures.failed
    c.args.numbered.now.founds.items c.args.counts.now c.tally_log-end.new.counts c.tally_log-end.new.seen
    c.in-Err-end.fault c.tell_stop.new.errors
    c.in-Err-end.ensures c.tell_stop.ensures
