use Rattle.lists.proofs.Known.{◌≡◌, ◌-◌, ◌∙◌, ◌==◌, ℕ, true, false, List, refl, sym, ap, subst, arith, ne_eqb, Some, lines, device_of, Read, InputTooLong, still_works, ReadLists, TakesLines, TakesBefore, goes_on, goes_idle, stops_reading, stops_too_long, ends, runs_out, tells_end}
use Rattle.lists.proofs.read.read_lines.Goals as goal

pub returns-in-Err-clause-stopped : goal.returns-in-Err-clause-stopped
returns-in-Err-clause-stopped g c =
    let remaining = g.R.Read.remaining in
    subst (λ (s : ReadLists). TakesBefore (remaining (device_of c.args.reader.now))
    (remaining (device_of c.ask.new.reader)) Read s c.reads.lists) c.begin.ensures
    (stops_reading _ _ _ c.reads.lines _ _ c.reads.room c.reads.invariant.taken c.in-Err.ensures.err)

pub returns-then-count-room-clause-stopped : goal.returns-then-count-room-clause-stopped
returns-then-count-room-clause-stopped g c =
    let remaining = g.R.Read.remaining in
    let r = c.in-Ok.ensures.read in
    subst (λ (s : ReadLists). TakesBefore (remaining (device_of c.args.reader.now))
    (remaining (device_of c.ask.new.reader)) InputTooLong s c.reads.lists) c.begin.ensures
    (stops_too_long _ _ _ c.reads.lines _ _ c.reads.room c.reads.invariant.taken r.chunk r.consumed
    (omega (arith, r.counted, c.if-count-room.true)))

pub returns-then-count-eq0-clause-taken : goal.returns-then-count-eq0-clause-taken
returns-then-count-eq0-clause-taken g c =
    let r = c.in-Ok.ensures.read in
    let ended : c.take_whole_lines-has_none.new.lines.ended ≡ true = c.take_whole_lines-has_none.ensures.ended ∙ c.in-Ok.ensures.ended
    ∙ ap (λ n. n == 0) c.if-count-eq0.true in
    subst (λ (s : ReadLists). (input : List ℕ) → g.R.Read.remaining (device_of c.args.reader.now) ≡ Some input
    → TakesLines s (lines input) c.take_whole_lines-has_none.new.lists) c.begin.ensures
    (ends _ _ _ c.reads.lines c.ask.new.self c.take_whole_lines-has_none.new.lines _ _ _ c.reads.room c.reads.invariant.taken
    r.chunk r.consumed (r.at_end c.if-count-eq0.true) r.holds
    c.take_whole_lines-has_none.ensures.taken ended)

pub returns-then-count-eq0-clause-ends : goal.returns-then-count-eq0-clause-ends
returns-then-count-eq0-clause-ends g c =
    let r = c.in-Ok.ensures.read in
    let none = c.if-count-eq0.true in
    tells_end _ _ _ c.reads.lines c.ask.new.self c.begin.new.self c.reads.lists c.reads.room (c.reads.room - c.in-Ok.count)
    c.reads.invariant.taken r.chunk (r.counted ∙ none) (omega (arith, none)) r.consumed (r.at_end none) r.holds
    c.take_whole_lines-has_none.result c.ends_whole.result c.ends_whole.ensures
    (c.take_whole_lines-has_none.ensures.none (c.in-Ok.ensures.ended ∙ ap (λ n. n == 0) none))
    c.take_whole_lines-has_none.new.lists.is_out_of_memory

pub returns-then-is_out_of_memory-clause-taken : goal.returns-then-is_out_of_memory-clause-taken
returns-then-is_out_of_memory-clause-taken g c =
    let r = c.in-Ok.ensures.read in
    let going : c.take_whole_lines-has_none.new.lines.ended ≡ false = c.take_whole_lines-has_none.ensures.ended ∙ c.in-Ok.ensures.ended
    ∙ ne_eqb c.in-Ok.count 0 c.if-count-eq0.false in
    subst (λ (s : ReadLists). (input : List ℕ) → g.R.Read.remaining (device_of c.args.reader.now) ≡ Some input
    → TakesLines s (lines input) c.take_whole_lines-has_none.new.lists) c.begin.ensures
    (runs_out _ _ c.take_whole_lines-has_none.new.lines _ _ (c.reads.room - c.in-Ok.count)
    (goes_on _ _ _ c.reads.lines c.ask.new.self c.take_whole_lines-has_none.new.lines _ _ _ c.reads.room
    (c.reads.room - c.in-Ok.count) c.in-Ok.count c.reads.invariant.taken r.chunk r.counted
    c.if-count-room.false refl r.consumed r.holds c.take_whole_lines-has_none.ensures.taken going)
    (sym c.is_out_of_memory.ensures ∙ c.if-is_out_of_memory.true))

pub reads-preserved : goal.reads-preserved
reads-preserved g c =
    let r = c.in-Ok.ensures.read in
    let going : c.take_whole_lines-has_none.new.lines.ended ≡ false = c.take_whole_lines-has_none.ensures.ended ∙ c.in-Ok.ensures.ended
    ∙ ne_eqb c.in-Ok.count 0 c.if-count-eq0.false in
    record {
      taken = goes_on _ _ _ c.reads.lines c.ask.new.self c.take_whole_lines-has_none.new.lines _ _ _ c.reads.room
          (c.reads.room - c.in-Ok.count) c.in-Ok.count c.reads.invariant.taken r.chunk r.counted
          c.if-count-room.false refl r.consumed r.holds c.take_whole_lines-has_none.ensures.taken going;
      idle = goes_idle _ _ c.reads.lines c.ask.new.self c.take_whole_lines-has_none.new.lines _ _ _ c.reads.room
          c.reads.invariant.taken r.chunk r.holds c.take_whole_lines-has_none.ensures.taken going;
      limit = c.take_whole_lines-has_none.ensures.limit ∙ c.in-Ok.ensures.limit ∙ c.reads.invariant.limit;
      failed = still_works _ _ _ c.in-Ok.ensures.failed c.reads.invariant.failed;
    }
