use Rattle.cidr_join.proofs.Known.{◌+◌, ℕ, Bool, List, [], false, map, drop, take, inl, refl, sym, ap, subst, arith, Some, string_bytes, drop_all, puts_nothing, InTurn, LogsSoFar, log_more, log_stops, logs_begin, logs_end, name_next, name_within, never, shown_in, GivesOne, status_by, failed_all, finishes, written_all}
use Rattle.cidr_join.proofs.logs.join_logs.Goals as goal

pub loop-file-init : goal.loop-file-init
loop-file-init g c = record {
  room = c.requires;
  names = logs_begin never (GivesOne shown_in c.args.join.now (g.L.OpenLists.known c.args.lists.now)) false
      (map string_bytes c.args.files.now) c.args.output.now;
}

pub loop-file-preserved : goal.loop-file-preserved
loop-file-preserved g c =
    let known = g.L.OpenLists.known c.args.lists.now in
    let files = c.args.files.now in
    let i = c.loop-file.file-index in
    let name = c.as_str-name.result.now in
    let rest = map string_bytes (drop (i + 1) files) in
    let gives = GivesOne shown_in c.args.join.now known in
    let next = name_next files i c.file-item.result name (omega arith) c.file-item.is c.as_str-name.ensures.value in
    record {
      room = omega (arith, c.loop-file.invariant.room, c.join_one.auto.buffer);
      names = subst
          (λ (m : Bool). LogsSoFar never gives false (map string_bytes files) rest c.args.output.now
          c.join_one.new.output m) (sym c.either-missed.ensures)
          (log_more never gives false (map string_bytes files) c.args.output.now c.loop-file.output
          c.join_one.new.output name rest c.loop-file.missed
          (subst (λ (n : List (List ℕ)). LogsSoFar never gives false (map string_bytes files) n c.args.output.now
          c.loop-file.output c.loop-file.missed) next c.loop-file.invariant.names)
          refl _ (c.in-Some.ensures c.loop-file.missed));
    }

pub returns-in_default : goal.returns-in_default
returns-in_default g c =
    let known = g.L.OpenLists.known c.args.lists.now in
    let files = c.args.files.now in
    let i = c.loop-file.file-index in
    let name = c.as_str-name.result.now in
    let rest = map string_bytes (drop (i + 1) files) in
    let gives = GivesOne shown_in c.args.join.now known in
    let next = name_next files i c.file-item.result name (omega arith) c.file-item.is c.as_str-name.ensures.value in
    log_stops never gives false (map string_bytes files) c.args.output.now c.loop-file.output c.join_one.new.output name
    rest c.loop-file.missed
    (subst (λ (n : List (List ℕ)). LogsSoFar never gives false (map string_bytes files) n c.args.output.now
    c.loop-file.output c.loop-file.missed) next c.loop-file.invariant.names)
    refl status_by known (map string_bytes (take i files))
    (name_within files i c.file-item.result name (omega arith) c.file-item.is c.as_str-name.ensures.value) refl
    (c.in_default.ensures c.loop-file.missed)

pub returns : goal.returns
returns g c =
    let known = g.L.OpenLists.known c.args.lists.now in
    let files = c.args.files.now in
    let gives = GivesOne shown_in c.args.join.now known in
    let mid = c.loop-file.output in
    let new = c.finish-written.new.self in
    logs_end never gives false (map string_bytes files) c.args.output.now mid new
    (map string_bytes (drop c.loop-file.file-index files)) c.loop-file.missed
    c.loop-file.invariant.names
    (subst (λ (n : List (List ℕ)). InTurn never (gives false) false c.loop-file.missed n [] (Some c.loop-file.missed))
    (sym (ap (map string_bytes) (drop_all c.loop-file.file-index files (omega arith)))) (inl (refl, refl)))
    status_by known c.end.result
    (finishes c.finish-written.result mid new [] mid.failed (status_by (Some c.loop-file.missed)) c.end.result
    (written_all c.finish-written.result mid mid new [] (puts_nothing _ _) c.finish-written.ensures.ok)
    (failed_all c.finish-written.result mid mid new [] (puts_nothing _ _) c.finish-written.ensures.err)
    c.finish-written.ensures.failed (rw c.status.ensures at c.end.ensures))
