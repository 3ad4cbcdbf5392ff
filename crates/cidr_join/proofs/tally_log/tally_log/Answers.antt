use Rattle.cidr_join.proofs.Known.{◌∙◌, [], sym, ap, subst, arith, length, device_of, has_failed, ReadsSoFar, nothing, LogStats, handed_out, reads_nothing, GivesLine, counted_in, never, counted, counting_breaks, counts_nothing, lacks_memory, line_counted, line_not_counted, long_counted, long_ends}
use Rattle.cidr_join.proofs.tally_log.tally_log.Goals as goal

pub lines-init : goal.lines-init
lines-init g c =
    let remained = g.R.Read.remaining (device_of c.args.reader.now) in
    record {
      sofar = record {
        marks = [];
        counts = counts_nothing c.args.numbered.now.founds.items c.args.counts.now;
        reads = subst
            (λ (s : LogStats). ReadsSoFar never (GivesLine counted_in c.args.join.now) nothing c.new-log.result remained
            remained [] s) (sym c.new-2.ensures)
            (reads_nothing never (GivesLine counted_in c.args.join.now) nothing remained c.new-log.result
            (c.new-log.ensures.begins _));
      };
      hurries = c.new-log.ensures.hurries;
    }

-- ---- a line

pub count_line-requires-clause-short : goal.count_line-requires-clause-short
count_line-requires-clause-short g c =
    let s = c.lines.invariant.sofar.reads in
    let given = handed_out c.next.new.self (g.R.Read.remaining (device_of c.args.reader.now))
    (g.R.Read.remaining (device_of c.next.new.reader)) s.first _ _
    c.in-Ok-Line.field-0-is (c.in-Ok-Line.ensures.gives _ s.first s.hands) in
    omega (arith, ap length c.line-line.ensures, given.within)

pub lines-preserved-in_default : goal.lines-preserved-in_default
lines-preserved-in_default g c =
    let s = c.lines.invariant.sofar in
    let remained = g.R.Read.remaining (device_of c.args.reader.now) in
    let remains = g.R.Read.remaining (device_of c.next.new.reader) in
    record {
      sofar = line_counted c.args.numbered.now.founds.items c.args.join.now c.lines.log c.next.new.self remained _
          remains c.lines.seen c.args.counts.now c.lines.counts s
          (has_failed c.next.new.reader) _ c.line-line.result.now
          (handed_out c.next.new.self remained remains s.reads.first _ _ c.in-Ok-Line.field-0-is
          (c.in-Ok-Line.ensures.gives _ s.reads.first s.reads.hands))
          c.line-line.ensures c.count_line.new.counts c.count_line.new.seen c.in_default.ensures.ok;
      hurries = c.next.ensures.hurries ∙ c.lines.invariant.hurries;
    }

pub returns-in-Err-count_line : goal.returns-in-Err-count_line
returns-in-Err-count_line g c =
    let s = c.lines.invariant.sofar in
    let remained = g.R.Read.remaining (device_of c.args.reader.now) in
    let remains = g.R.Read.remaining (device_of c.next.new.reader) in
    line_not_counted c.args.numbered.now.founds.items c.args.join.now c.lines.log c.next.new.self remained _ remains
    c.lines.seen c.args.counts.now c.lines.counts s
    (has_failed c.next.new.reader) _ c.line-line.result.now
    (handed_out c.next.new.self remained remains s.reads.first _ _ c.in-Ok-Line.field-0-is
    (c.in-Ok-Line.ensures.gives _ s.reads.first s.reads.hands))
    c.line-line.ensures c.count_line.new.counts c.count_line.new.seen c.in-Err-count_line.fault
    c.in-Err-count_line.ensures.err

-- ---- a line that is too long

pub returns-then-stops : goal.returns-then-stops
returns-then-stops g c =
    let s = c.lines.invariant.sofar in
    let remained = g.R.Read.remaining (device_of c.args.reader.now) in
    let remains = g.R.Read.remaining (device_of c.next.new.reader) in
    long_ends c.args.numbered.now.founds.items c.args.join.now c.lines.log c.next.new.self remained _ remains
    c.lines.seen c.args.counts.now c.lines.counts s
    (has_failed c.next.new.reader)
    (handed_out c.next.new.self remained remains s.reads.first _ _ c.in-Ok-TooLong.field-0-is
    (c.in-Ok-TooLong.ensures.gives _ s.reads.first s.reads.hands))
    (sym c.is_stopped-stops.ensures ∙ c.if-stops.true)

pub lines-preserved : goal.lines-preserved
lines-preserved g c =
    let s = c.lines.invariant.sofar in
    let remained = g.R.Read.remaining (device_of c.args.reader.now) in
    let remains = g.R.Read.remaining (device_of c.next.new.reader) in
    let hurries = c.next.ensures.hurries ∙ c.lines.invariant.hurries in
    record {
      sofar = long_counted c.args.numbered.now.founds.items c.args.join.now c.lines.log c.next.new.self remained _
          remains c.lines.seen c.args.counts.now c.lines.counts s
          (has_failed c.next.new.reader)
          (handed_out c.next.new.self remained remains s.reads.first _ _ c.in-Ok-TooLong.field-0-is
          (c.in-Ok-TooLong.ensures.gives _ s.reads.first s.reads.hands))
          (sym c.is_stopped-stops.ensures ∙ c.if-stops.false) (hurries ∙ c.if-stops.false) c.count_asked.new.counts
          c.in_default-count_asked.ensures
          c.add_long.new.self c.add_long.ensures;
      hurries = hurries;
    }

pub returns-in-Err-count_asked : goal.returns-in-Err-count_asked
returns-in-Err-count_asked g c =
    lacks_memory c.args.numbered.now.founds.items c.args.join.now c.lines.log c.next.new.self
    (g.R.Read.remaining (device_of c.args.reader.now)) _
    (g.R.Read.remaining (device_of c.next.new.reader)) c.lines.seen c.args.counts.now c.lines.counts
    c.lines.invariant.sofar (has_failed c.next.new.reader)
    c.count_asked.new.counts c.add_long.new.self

-- ---- no line more

pub returns-in-Ok-End : goal.returns-in-Ok-End
returns-in-Ok-End g c =
    let s = c.lines.invariant.sofar in
    let remained = g.R.Read.remaining (device_of c.args.reader.now) in
    let remains = g.R.Read.remaining (device_of c.next.new.reader) in
    counted c.args.numbered.now.founds.items c.args.join.now c.lines.log c.next.new.self remained _ remains c.lines.seen
    c.args.counts.now c.lines.counts s
    (has_failed c.next.new.reader) tt
    (handed_out c.next.new.self remained remains s.reads.first _ _ c.in-Ok-End.field-0-is
    (c.in-Ok-End.ensures.gives _ s.reads.first s.reads.hands))

pub returns-in-Err : goal.returns-in-Err
returns-in-Err g c =
    let s = c.lines.invariant.sofar in
    counting_breaks c.args.numbered.now.founds.items c.args.join.now c.lines.log c.next.new.self
    (g.R.Read.remaining (device_of c.args.reader.now)) _
    (g.R.Read.remaining (device_of c.next.new.reader)) c.lines.seen c.args.counts.now c.lines.counts s
    (has_failed c.next.new.reader) c.lines.nothing c.next.new.output c.in-Err.fault
    (c.in-Err.ensures.breaks _ s.reads.first s.reads.hands)
