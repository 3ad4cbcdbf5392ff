use Rattle.line_addresses.proofs.Known.{◌∙◌, take_rest, begun_by, at_rest, at_start, begins, begins_behind, none_at_rest, not_begun, nothing_at_rest}
use Rattle.line_addresses.proofs.run.address_within.Goals as goal

pub returns-in-Some : goal.returns-in-Some
returns-in-Some c =
    begins c.args.run.now _ (at_start _ c.args.run.now c.in-Some.address c.in-Some.size _ c.in-Some.ensures)

pub returns-then-start-run : goal.returns-then-start-run
returns-then-start-run c =
    let rest = c.behind_word-start in
    not_begun c.args.run.now c.in_default.ensures
    ∙ nothing_at_rest c.args.run.now rest.result rest.ensures.rest c.if-start-run.true

pub returns-in-Some-begun_by : goal.returns-in-Some-begun_by
returns-in-Some-begun_by c =
    let rest = c.behind_word-start in
    begins_behind c.args.run.now _ c.in_default.ensures
    (at_rest begun_by c.args.run.now _ rest.result rest.ensures.within (take_rest c.args.run.now rest.result)
    rest.ensures.rest c.in-Some-begun_by.address c.in-Some-begun_by.size _ c.in-Some-begun_by.ensures)

pub returns-in-None : goal.returns-in-None
returns-in-None c =
    let rest = c.behind_word-start in
    not_begun c.args.run.now c.in_default.ensures
    ∙ none_at_rest begun_by c.args.run.now _ rest.result rest.ensures.within (take_rest c.args.run.now rest.result)
    rest.ensures.rest c.in-None.ensures
