use Rattle.cidr_join.proofs.Known.{sym, ◌∙◌, arith, line_fails}
use Rattle.cidr_join.proofs.line.read_route.Goals as goal

pub returns-in-Err : goal.returns-in-Err
returns-in-Err c =
    line_fails c.args.bare c.args.ranges c.args.line.now c.trim-text.result.now
    (omega (arith, c.if-line-gt-LINE_MAX.false)) c.trim-text.ensures
    (sym c.is_skipped.ensures ∙ c.if-is_skipped.false) c.in-Err.cause c.in-Err.ensures.err
