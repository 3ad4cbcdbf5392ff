use Rattle.lists.proofs.Known.{◌∙◌, refl, takes_none, takes_line, takes_too_long, takes_whole, takes_all, some_line, some_long_line, no_line, no_line_yet}
use Rattle.lists.proofs.read.take_whole_lines.Goals as goal

pub lines-init : goal.lines-init
lines-init c =
    record {
      taken = λ pending h. takes_none c.args.lines.now c.args.lists.now pending h;
      none = λ ended pending h. h;
      limit = refl;
      ended = refl;
    }

pub lines-preserved-in-Line : goal.lines-preserved-in-Line
lines-preserved-in-Line c = record {
  taken = λ pending h. takes_line c.lines.lines c.next.new.self _ _ _ pending c.line.result.now c.in-Line.field-0
      (c.lines.invariant.taken pending h) c.in-Line.ensures.gives c.next.ensures.ended
      (c.next.ensures.limit ∙ c.lines.invariant.limit ∙ c.requires) c.line.ensures c.take_line.ensures;
  none = λ ended pending h. some_line c.lines.has_none c.lines.lines c.next.new.self pending c.in-Line.field-0
      (c.lines.invariant.none ended pending h) c.in-Line.ensures.gives;
  limit = c.next.ensures.limit ∙ c.lines.invariant.limit;
  ended = c.next.ensures.ended ∙ c.lines.invariant.ended;
}

pub lines-preserved : goal.lines-preserved
lines-preserved c = record {
  taken = λ pending h. takes_too_long c.lines.lines c.next.new.self _ _ _ pending (c.lines.invariant.taken pending h)
      c.in-TooLong.ensures.gives c.next.ensures.ended
      (c.next.ensures.limit ∙ c.lines.invariant.limit ∙ c.requires) c.refuse_long_line.ensures;
  none = λ ended pending h. some_long_line c.lines.has_none c.lines.lines c.next.new.self pending
      (c.lines.invariant.none ended pending h) c.in-TooLong.ensures.gives;
  limit = c.next.ensures.limit ∙ c.lines.invariant.limit;
  ended = c.next.ensures.ended ∙ c.lines.invariant.ended;
}

pub returns-in-Ask-clause-taken : goal.returns-in-Ask-clause-taken
returns-in-Ask-clause-taken c = λ pending h. takes_whole c.lines.lines c.next.new.self _ _ pending
    (c.lines.invariant.taken pending h) c.in-Ask.ensures.gives c.next.ensures.ended

pub returns-in-End-clause-taken : goal.returns-in-End-clause-taken
returns-in-End-clause-taken c = λ pending h. takes_all c.lines.lines c.next.new.self _ _ pending
    (c.lines.invariant.taken pending h) c.in-End.ensures.gives c.next.ensures.ended

pub returns-in-Ask-clause-none : goal.returns-in-Ask-clause-none
returns-in-Ask-clause-none c = λ ended pending h. no_line_yet c.lines.has_none c.lines.lines c.next.new.self pending
    (c.lines.invariant.none ended pending h) (c.next.ensures.ended ∙ c.lines.invariant.ended ∙ ended) c.in-Ask.ensures.gives

pub returns-in-End-clause-none : goal.returns-in-End-clause-none
returns-in-End-clause-none c = λ ended pending h. no_line c.lines.has_none c.lines.lines c.next.new.self pending
    (c.lines.invariant.none ended pending h) c.in-End.ensures.gives
