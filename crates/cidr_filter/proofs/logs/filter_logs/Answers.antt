use Rattle.cidr_filter.proofs.Known.{◌∙◌, ◌+◌, List, [], ℕ, drop, take, inl, refl, sym, ap, subst, arith, false, string_bytes, drop_all, LogsSoFar, StopsLog, TakesLog, full_here, logs_begin, log_more, log_stops, logs_end, name_next, name_within, is_silent, FiltersLog, is_enough, nothing, status_by, Filter}
use Rattle.std.proofs.Common.{map}
use Rattle.cidr_filter.proofs.logs.filter_logs.Goals as goal

pub loop-file-init : goal.loop-file-init
loop-file-init g c = record {
  room = c.requires.room;
  filter = refl;
  logs = rw (c.new-total.ensures) (logs_begin (is_enough (is_silent c.args.filter.now.shows))
      (FiltersLog c.args.filter.now (g.L.OpenLists.known c.args.lists.now)) nothing (map string_bytes c.args.files.now)
      c.args.output.now);
}

pub loop-file-preserved : goal.loop-file-preserved
loop-file-preserved g c =
    let known = g.L.OpenLists.known c.args.lists.now in
    let files = c.args.files.now in
    let i = c.loop-file.file-index in
    let name = c.as_str-name.result.now in
    let full = is_enough (is_silent c.args.filter.now.shows) in
    let gives = FiltersLog c.args.filter.now known in
    record {
      room = omega (arith, c.loop-file.invariant.room, c.filter_one.auto.buffer);
      filter = c.filter_one.ensures.filter ∙ c.loop-file.invariant.filter;
      logs = log_more full gives nothing (map string_bytes files) c.args.output.now c.loop-file.output
          c.filter_one.new.output name (map string_bytes (drop (i + 1) files)) c.loop-file.total
          (subst (λ (n : List (List ℕ)). LogsSoFar full gives nothing (map string_bytes files) n c.args.output.now
          c.loop-file.output c.loop-file.total)
          (name_next files i c.file-item.result name (omega arith) c.file-item.is c.as_str-name.ensures.value)
          c.loop-file.invariant.logs)
          (sym (rw (c.is_silent-is_silent.ensures) at c.is_enough.ensures) ∙ c.if-is_enough.false) c.in-Some.next
          (subst (λ (f : Filter). TakesLog (FiltersLog f known) name c.loop-file.output c.loop-file.total
          c.filter_one.new.output c.in-Some.next) c.loop-file.invariant.filter c.in-Some.ensures.logs);
    }

pub returns-then-is_enough : goal.returns-then-is_enough
returns-then-is_enough g c =
    let known = g.L.OpenLists.known c.args.lists.now in
    let silent = is_silent c.args.filter.now.shows in
    let gives = FiltersLog c.args.filter.now known in
    let names = map string_bytes (drop c.loop-file.file-index c.args.files.now) in
    logs_end (is_enough silent) gives nothing (map string_bytes c.args.files.now) c.args.output.now c.loop-file.output
    c.finish.new.output names c.loop-file.total c.loop-file.invariant.logs
    (full_here (is_enough silent) (gives false) false c.loop-file.total names
    (sym (rw (c.is_silent-is_silent.ensures) at c.is_enough.ensures) ∙ c.if-is_enough.true))
    (status_by silent) known c.finish.result
    (rw (c.status.ensures, c.is_silent-is_silent.ensures) at c.finish.ensures)

pub returns-in_default : goal.returns-in_default
returns-in_default g c =
    let known = g.L.OpenLists.known c.args.lists.now in
    let files = c.args.files.now in
    let i = c.loop-file.file-index in
    let name = c.as_str-name.result.now in
    let full = is_enough (is_silent c.args.filter.now.shows) in
    let gives = FiltersLog c.args.filter.now known in
    log_stops full gives nothing (map string_bytes files) c.args.output.now c.loop-file.output c.filter_one.new.output
    name
    (map string_bytes (drop (i + 1) files)) c.loop-file.total
    (subst (λ (n : List (List ℕ)). LogsSoFar full gives nothing (map string_bytes files) n c.args.output.now
    c.loop-file.output c.loop-file.total)
    (name_next files i c.file-item.result name (omega arith) c.file-item.is c.as_str-name.ensures.value)
    c.loop-file.invariant.logs)
    (sym (rw (c.is_silent-is_silent.ensures) at c.is_enough.ensures) ∙ c.if-is_enough.false)
    (status_by (is_silent c.args.filter.now.shows)) known (map string_bytes (take i files))
    (name_within files i c.file-item.result name (omega arith) c.file-item.is c.as_str-name.ensures.value) refl
    (subst (λ (f : Filter). StopsLog (FiltersLog f known) known name c.loop-file.output c.loop-file.total
    c.filter_one.new.output) c.loop-file.invariant.filter c.in_default.ensures.logs)

pub returns : goal.returns
returns g c =
    let known = g.L.OpenLists.known c.args.lists.now in
    let files = c.args.files.now in
    let silent = is_silent c.args.filter.now.shows in
    let gives = FiltersLog c.args.filter.now known in
    logs_end (is_enough silent) gives nothing (map string_bytes files) c.args.output.now c.loop-file.output
    c.finish-2.new.output [] c.loop-file.total
    (subst (λ (n : List (List ℕ)). LogsSoFar (is_enough silent) gives nothing (map string_bytes files) n
    c.args.output.now
    c.loop-file.output c.loop-file.total) (ap (map string_bytes) (drop_all c.loop-file.file-index files (omega arith)))
    c.loop-file.invariant.logs)
    (inl (refl, refl)) (status_by silent) known c.finish-2.result
    (rw (c.status-2.ensures, c.is_silent-is_silent.ensures) at c.finish-2.ensures)
