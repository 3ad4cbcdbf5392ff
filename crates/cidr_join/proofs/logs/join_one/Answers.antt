use Rattle.cidr_join.proofs.Known.{[], device_of, has_failed, puts_nothing, shown_in, joining_stops, not_opened, read_all}
use Rattle.cidr_join.proofs.logs.join_one.Goals as goal

pub returns-in-Err : goal.returns-in-Err
returns-in-Err g c missed = (
  [],
  puts_nothing _ _,
  λ cut. not_opened c.args.join.now (g.L.OpenLists.known c.args.lists.now) c.args.name.now shown_in
      c.in-Err.ensures.opened cut missed,
)

pub returns-in-Ok-end : goal.returns-in-Ok-end
returns-in-Ok-end g c missed =
    let f = c.in-Ok-end.ensures in (
      f.added,
      f.put,
      λ cut. read_all c.args.join.now (g.L.OpenLists.known c.args.lists.now) c.args.name.now
          (g.L.List.Read.remaining (device_of c.in-Ok.log))
          c.in-Ok.ensures.bytes c.in-Ok.ensures.opened (has_failed c.join_log-end.new.reader) shown_in tt f.added
          c.join_log-end.new.seen f.reads
          c.is_missed.result c.is_missed.ensures cut missed,
    )

pub returns-in-Err-end : goal.returns-in-Err-end
returns-in-Err-end g c missed =
    joining_stops c.args.join.now (g.L.OpenLists.known c.args.lists.now) c.args.name.now
    (g.L.List.Read.remaining (device_of c.in-Ok.log))
    c.in-Ok.ensures.bytes c.in-Ok.ensures.opened (has_failed c.join_log-end.new.reader) c.close.ensures.failed
    c.args.output.now c.join_log-end.new.output c.stop.new.output c.join_log-end.new.seen
    c.in-Err-end.fault c.in-Err-end.ensures c.stop.ensures missed
