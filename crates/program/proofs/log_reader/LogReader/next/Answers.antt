use Rattle.program.proofs.Known.{◌-◌, ◌∙◌, ap, refl, sym, arith, length, true≢false, has_failed, still_works, OpenLog, failed_now, by_fields, gives_line, gives_long, gives_end, long_comes, read_breaks, endless_breaks, reads_on, write_breaks, puts_idle, fails_idle, some_pending, less_to_read}
use Rattle.program.proofs.log_reader.LogReader.next.Invariants.{open_log}
use Rattle.program.proofs.log_reader.LogReader.next.Goals as goal

-- ---- a line

pub returns-in-Line-clause-gives : goal.returns-in-Line-clause-gives
returns-in-Line-clause-gives g c = λ remained first h.
    let s = c.asks.invariant.hands remained first (by_fields c.self.view_is h) in
    let now = open_log c.next.new.self c.asks.self-inside.room c.asks.self-inside.hurries in
    gives_line _ now remained _ first s refl c.next.ensures.ended c.next.ensures.limit c.in-Line.end
    (c.in-Line.ensures.gives s.pending s.holds)

pub returns-in-TooLong-clause-gives : goal.returns-in-TooLong-clause-gives
returns-in-TooLong-clause-gives g c = λ remained first h.
    let s = c.asks.invariant.hands remained first (by_fields c.self.view_is h) in
    let now = open_log c.next.new.self c.asks.self-inside.room c.asks.self-inside.hurries in
    gives_long _ now remained _ first s refl c.next.ensures.ended c.next.ensures.limit
    (c.in-TooLong.ensures.gives s.pending s.holds)

-- ---- more bytes are needed

pub returns-in_default-clause-breaks : goal.returns-in_default-clause-breaks
returns-in_default-clause-breaks g c = λ remained first h.
    let handed = c.asks.invariant.hands remained first (by_fields c.self.view_is h) in
    let breaks = write_breaks _ remained _ first handed in (
      failed_now c.hand_on.new.self.failed _ c.in_default.ensures.failed,
      fails_idle _ _ _ _ _ c.asks.invariant.puts c.in_default.ensures.err,
      breaks.0,
      breaks.1,
      breaks.2,
      breaks.3,
    )

pub is_too_long-requires : goal.is_too_long-requires
is_too_long-requires g c = let some = some_pending c.asks.self-inside.lines in (c.in-Ask.ensures.gives some.0 some.1).2

pub returns-then-is_too_long-clause-gives : goal.returns-then-is_too_long-clause-gives
returns-then-is_too_long-clause-gives g c = λ remained first h.
    let s = c.asks.invariant.hands remained first (by_fields c.self.view_is h) in
    let now = open_log c.next.new.self c.asks.self-inside.room c.asks.self-inside.hurries in
    let given = c.in-Ask.ensures.gives s.pending s.holds in
    let long = (c.is_too_long.ensures s.pending given.0).0 c.if-is_too_long.true in
    let comes = long_comes _ now remained _ first s refl c.next.ensures.ended c.next.ensures.limit given.1
    (omega (arith, long, c.next.ensures.limit, s.limit)) in
    record {
      line = comes.0;
      next = comes.1;
      long = comes.2;
      hands = λ stays. absurd (true≢false (sym c.if-self.true ∙ stays));
    }

pub returns-then-is_too_long-clause-put : goal.returns-then-is_too_long-clause-put
returns-then-is_too_long-clause-put g c = puts_idle _ _ _ _ _ _ c.asks.invariant.puts c.in-Ok.ensures.emptied
    c.in-Ok.ensures.ok

pub returns-then-is_too_long-clause-less : goal.returns-then-is_too_long-clause-less
returns-then-is_too_long-clause-less g c = λ stays. absurd (true≢false
    (sym c.if-self.true ∙ (c.asks.invariant.hurries ∙ (ap (λ (log : OpenLog). log.hurries) c.self.view_is ∙ stays))))

pub ask-requires : goal.ask-requires
ask-requires g c = let some = some_pending c.asks.self-inside.lines in (c.in-Ask.ensures.gives some.0 some.1).2

pub returns-in_default-ask-clause-breaks : goal.returns-in_default-ask-clause-breaks
returns-in_default-ask-clause-breaks g c = λ remained first h.
    let s = c.asks.invariant.hands remained first (by_fields c.self.view_is h) in
    let now = open_log c.next.new.self c.asks.self-inside.room c.asks.self-inside.hurries in
    let given = c.in-Ask.ensures.gives s.pending s.holds in
    let breaks = read_breaks _ now remained _ first s refl c.next.ensures.ended c.next.ensures.limit given.1 given.3 _
    c.in_default-ask.ensures.err in (
      failed_now (has_failed c.ask.new.reader) _ c.in_default-ask.ensures.failed,
      puts_idle _ _ _ _ _ _ c.asks.invariant.puts c.in-Ok.ensures.emptied c.in-Ok.ensures.ok,
      breaks.0,
      breaks.1,
      breaks.2,
    )

pub returns-then-count-self-clause-breaks : goal.returns-then-count-self-clause-breaks
returns-then-count-self-clause-breaks g c = λ remained first h.
    let s = c.asks.invariant.hands remained first (by_fields c.self.view_is h) in
    let now = open_log c.next.new.self c.asks.self-inside.room c.asks.self-inside.hurries in
    let given = c.in-Ask.ensures.gives s.pending s.holds in
    let breaks = endless_breaks _ now remained _ first s refl c.next.ensures.ended c.next.ensures.limit
    given.1 given.3 _
    c.ask.new.self c.in-Ok-ask.count c.in-Ok-ask.ensures.read c.if-count-self.true in (
      puts_idle _ _ _ _ _ _ c.asks.invariant.puts c.in-Ok.ensures.emptied c.in-Ok.ensures.ok,
      breaks.0,
      breaks.1,
      breaks.2,
      breaks.3,
      breaks.4,
    )

pub asks-smaller : goal.asks-smaller
asks-smaller g c =
    let new = open_log c.ask.new.self (c.asks.self-inside.room - c.in-Ok-ask.count) c.asks.self-inside.hurries in
    let some = some_pending c.asks.self-inside.lines in
    let going = (c.in-Ask.ensures.gives some.0 some.1).3 in
    less_to_read (open_log c.asks.self-inside.lines c.asks.self-inside.room c.asks.self-inside.hurries) new
    c.in-Ok-ask.count refl (sym c.next.ensures.ended ∙ going) c.in-Ok-ask.ensures.ended c.if-count-self.false
    (c.in-Ok-ask.ensures.size ∙ ap length c.next.ensures.unmoved)

pub asks-preserved : goal.asks-preserved
asks-preserved g c =
    let now = open_log c.next.new.self c.asks.self-inside.room c.asks.self-inside.hurries in
    let new = open_log c.ask.new.self (c.asks.self-inside.room - c.in-Ok-ask.count) c.asks.self-inside.hurries in
    let some = some_pending c.asks.self-inside.lines in
    let going = (c.in-Ask.ensures.gives some.0 some.1).3 in
    let less = less_to_read (open_log c.asks.self-inside.lines c.asks.self-inside.room c.asks.self-inside.hurries) new
    c.in-Ok-ask.count refl (sym c.next.ensures.ended ∙ going) c.in-Ok-ask.ensures.ended c.if-count-self.false
    (c.in-Ok-ask.ensures.size ∙ ap length c.next.ensures.unmoved) in
    record {
      hands = λ remained first h.
          let s = c.asks.invariant.hands remained first h in
          let given = c.in-Ask.ensures.gives s.pending s.holds in
          reads_on _ now remained _ first s refl c.next.ensures.ended c.next.ensures.limit given.1 given.3 _
          new c.in-Ok-ask.count given.0 c.in-Ok-ask.ensures.read c.in-Ok-ask.ensures.ended c.in-Ok-ask.ensures.limit
          c.if-count-self.false refl;
      puts = puts_idle _ _ _ _ _ _ c.asks.invariant.puts c.in-Ok.ensures.emptied c.in-Ok.ensures.ok;
      fewer = omega (arith, less, c.asks.invariant.fewer);
      hurries = c.asks.invariant.hurries;
      reads = still_works _ _ _ c.in-Ok-ask.ensures.failed c.asks.invariant.reads;
      writes = still_works _ _ _ c.in-Ok.ensures.failed c.asks.invariant.writes;
    }

-- ---- the end of the log

pub returns-in-Ok-hand_on-clause-gives : goal.returns-in-Ok-hand_on-clause-gives
returns-in-Ok-hand_on-clause-gives g c = λ remained first h.
    let s = c.asks.invariant.hands remained first (by_fields c.self.view_is h) in
    let now = open_log c.next.new.self c.asks.self-inside.room c.asks.self-inside.hurries in
    gives_end _ now remained _ first s refl c.next.ensures.ended c.next.ensures.limit
    (c.in-End.ensures.gives s.pending s.holds)

pub returns-in-Err-clause-breaks : goal.returns-in-Err-clause-breaks
returns-in-Err-clause-breaks g c = λ remained first h.
    let handed = c.asks.invariant.hands remained first (by_fields c.self.view_is h) in
    let breaks = write_breaks _ remained _ first handed in (
      failed_now c.hand_on-in-End.new.self.failed _ c.in-Err.ensures.failed,
      fails_idle _ _ _ _ _ c.asks.invariant.puts c.in-Err.ensures.err,
      breaks.0,
      breaks.1,
      breaks.2,
      breaks.3,
    )
