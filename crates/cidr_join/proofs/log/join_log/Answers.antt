use Rattle.cidr_join.proofs.Known.{◌≡◌, ◌∙◌, ◌≤◌, ℕ, List, refl, sym, ap, subst, arith, length, length-append, [], ◌∷◌, ◌++◌, device_of, has_failed, LineEnd, LineFeed, ReturnAndLineFeed, EndOfInput, feed_behind, log_line, printed, PrintsSoFar, nothing, LogStats, handed_out, after_line, after_long, begins, breaks, log_ends, long_stops, GivesLine, never, shown_in, long_gives, long_refused, shown_long}
use Rattle.log_programs.proofs.LogPrints.{line_stops}
use Rattle.cidr_join.specs.declared.found.Found.TheVariants as founds
use Rattle.cidr_join.proofs.log.join_log.Goals as goal

-- a line without its end is at most as long as with it
line_within : (line whole : List ℕ) (end : LineEnd) → printed (log_line line end) ≡ whole ++ feed_behind end
    → length line ≤ length whole
line_within line whole LineFeed e = omega (arith, ap length e, length-append line (10 ∷ []), length-append whole [])
line_within line whole ReturnAndLineFeed e =
    omega (
      arith,
      ap length e,
      length-append (line ++ 13 ∷ []) (10 ∷ []),
      length-append line (13 ∷ []),
      length-append
          whole [],
    )
line_within line whole EndOfInput e =
    omega (arith, ap length e, length-append line (10 ∷ []), length-append whole (10 ∷ []))

pub lines-init : goal.lines-init
lines-init g c =
    let remained = g.R.Read.remaining (device_of c.args.reader.now) in
    record {
      sofar = subst
          (λ (s : LogStats). PrintsSoFar never (GivesLine shown_in c.args.join.now) nothing c.new-log.result remained
          remained c.args.output.now c.args.output.now s)
          (sym c.new.ensures)
          (begins never (GivesLine shown_in c.args.join.now) nothing remained c.args.output.now c.new-log.result
          (c.new-log.ensures.begins _));
      hurries = c.new-log.ensures.hurries;
    }

-- ---- a line

pub join_line-requires-clause-whole : goal.join_line-requires-clause-whole
join_line-requires-clause-whole g c =
    let s = c.lines.invariant.sofar.reads in
    let remains = g.R.Read.remaining (device_of c.next.new.reader) in
    let given = handed_out c.next.new.self (g.R.Read.remaining (device_of c.args.reader.now)) remains s.first _ _
    c.in-Ok-Line.field-0-is (c.in-Ok-Line.ensures.gives _ s.first s.hands) in
    let fits = line_within c.next.new.self.buffered.line c.next.new.self.buffered.whole c.in-Ok-Line.end
    given.is_printed in
    omega (arith, ap length c.line-line.ensures, ap length c.whole_line-whole.ensures, fits)

pub join_line-requires-clause-short : goal.join_line-requires-clause-short
join_line-requires-clause-short g c =
    let s = c.lines.invariant.sofar.reads in
    let remains = g.R.Read.remaining (device_of c.next.new.reader) in
    let given = handed_out c.next.new.self (g.R.Read.remaining (device_of c.args.reader.now)) remains s.first _ _
    c.in-Ok-Line.field-0-is (c.in-Ok-Line.ensures.gives _ s.first s.hands) in
    omega (arith, ap length c.line-line.ensures, given.within)

pub lines-preserved-in_default : goal.lines-preserved-in_default
lines-preserved-in_default g c =
    let s = c.lines.invariant.sofar in
    let remained = g.R.Read.remaining (device_of c.args.reader.now) in
    let remains = g.R.Read.remaining (device_of c.next.new.reader) in
    record {
      sofar = after_line never (GivesLine shown_in c.args.join.now) nothing remained c.args.output.now c.lines.log
          c.next.new.self _ remains
          c.lines.output c.next.new.output c.lines.seen s (has_failed c.next.new.reader) c.in-Ok-Line.ensures.put
          c.in-Ok-Line.end c.line-line.result.now c.whole_line-whole.result.now
          (handed_out c.next.new.self remained remains s.reads.first _ _ c.in-Ok-Line.field-0-is
          (c.in-Ok-Line.ensures.gives _ s.reads.first s.reads.hands))
          c.line-line.ensures c.whole_line-whole.ensures refl c.join_line.new.output c.join_line.new.seen
          c.in_default.ensures.ok;
      hurries = c.next.ensures.hurries ∙ c.lines.invariant.hurries;
    }

pub returns-in-Err-join_line : goal.returns-in-Err-join_line
returns-in-Err-join_line g c =
    let s = c.lines.invariant.sofar in
    let remained = g.R.Read.remaining (device_of c.args.reader.now) in
    let remains = g.R.Read.remaining (device_of c.next.new.reader) in
    line_stops never (GivesLine shown_in c.args.join.now) nothing remained c.args.output.now c.lines.log c.next.new.self
    _ remains
    c.lines.output c.next.new.output c.lines.seen s (has_failed c.next.new.reader) c.in-Ok-Line.ensures.put
    c.in-Ok-Line.end c.line-line.result.now c.whole_line-whole.result.now
    (handed_out c.next.new.self remained remains s.reads.first _ _ c.in-Ok-Line.field-0-is
    (c.in-Ok-Line.ensures.gives _ s.reads.first s.reads.hands))
    c.line-line.ensures c.whole_line-whole.ensures refl c.in-Err-join_line.fault c.join_line.new.output
    c.join_line.new.seen c.in-Err-join_line.ensures.err

-- ---- a line that is too long

pub returns-then-stops : goal.returns-then-stops
returns-then-stops g c =
    let s = c.lines.invariant.sofar in
    let join = c.args.join.now in
    let remained = g.R.Read.remaining (device_of c.args.reader.now) in
    let remains = g.R.Read.remaining (device_of c.next.new.reader) in
    long_stops never (GivesLine shown_in join) nothing remained c.args.output.now c.lines.log c.next.new.self _ remains
    c.lines.output c.next.new.output c.lines.seen s (has_failed c.next.new.reader) c.in-Ok-TooLong.ensures.put
    (handed_out c.next.new.self remained remains s.reads.first _ _ c.in-Ok-TooLong.field-0-is
    (c.in-Ok-TooLong.ensures.gives _ s.reads.first s.reads.hands))
    refl c.lines.seen
    (λ line long. long_refused join c.lines.seen _ _ long shown_in
    (sym c.is_stopped-stops.ensures ∙ c.if-stops.true))

pub lines-preserved : goal.lines-preserved
lines-preserved g c =
    let s = c.lines.invariant.sofar in
    let join = c.args.join.now in
    let remained = g.R.Read.remaining (device_of c.args.reader.now) in
    let remains = g.R.Read.remaining (device_of c.next.new.reader) in
    let hurries = c.next.ensures.hurries ∙ c.lines.invariant.hurries in
    record {
      sofar = after_long never (GivesLine shown_in join) nothing remained c.args.output.now c.lines.log c.next.new.self
          _ remains
          c.lines.output c.next.new.output c.lines.seen s (has_failed c.next.new.reader) c.in-Ok-TooLong.ensures.put
          (handed_out c.next.new.self remained remains s.reads.first _ _ c.in-Ok-TooLong.field-0-is
          (c.in-Ok-TooLong.ensures.gives _ s.reads.first s.reads.hands))
          refl (hurries ∙ c.if-stops.false) c.add_long.new.self
          (λ line long. long_gives join c.lines.seen _ _ long shown_in c.add_long.new.self founds.Nothing []
          (sym c.is_stopped-stops.ensures ∙ c.if-stops.false) refl c.add_long.ensures
          (sym (shown_long join c.lines.seen _ _ long founds.Nothing)));
      hurries = hurries;
    }

-- ---- no line more

pub returns-in-Ok-End : goal.returns-in-Ok-End
returns-in-Ok-End g c =
    let s = c.lines.invariant.sofar in
    let remained = g.R.Read.remaining (device_of c.args.reader.now) in
    let remains = g.R.Read.remaining (device_of c.next.new.reader) in
    log_ends never (GivesLine shown_in c.args.join.now) nothing remained c.args.output.now c.lines.log c.next.new.self _
    remains
    c.lines.output c.next.new.output c.lines.seen s (has_failed c.next.new.reader) c.in-Ok-End.ensures.put tt
    (handed_out c.next.new.self remained remains s.reads.first _ _ c.in-Ok-End.field-0-is
    (c.in-Ok-End.ensures.gives _ s.reads.first s.reads.hands))

pub returns-in-Err : goal.returns-in-Err
returns-in-Err g c =
    let s = c.lines.invariant.sofar in
    breaks never (GivesLine shown_in c.args.join.now) nothing (g.R.Read.remaining (device_of c.args.reader.now))
    c.args.output.now c.lines.log c.next.new.self _
    (g.R.Read.remaining (device_of c.next.new.reader)) c.lines.output c.next.new.output c.lines.seen s
    (has_failed c.next.new.reader)
    c.in-Err.fault c.lines.seen (c.in-Err.ensures.breaks _ s.reads.first s.reads.hands)
