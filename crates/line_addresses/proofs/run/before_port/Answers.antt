use Rattle.line_addresses.proofs.Known.{sym, ◌∙◌, no_address, no_dot, no_port, ported}
use Rattle.line_addresses.proofs.run.before_port.Goals as goal

pub returns-then-not-is_port : goal.returns-then-not-is_port
returns-then-not-is_port c =
    no_port c.args.run.now c.digits_at_end-size.result c.digits_at_end-size.ensures.is
    (sym c.is_port.ensures.is ∙ c.if-not-is_port.true)

pub returns-then-not-has_dot : goal.returns-then-not-has_dot
returns-then-not-has_dot c =
    no_dot c.args.run.now c.digits_at_end-size.result c.digits_at_end-size.ensures.is
    (sym c.is_port.ensures.is ∙ c.if-not-is_port.false) (sym c.has_dot.ensures ∙ c.if-not-has_dot.true)

pub returns-in-Some : goal.returns-in-Some
returns-in-Some c =
    ported c.args.run.now c.digits_at_end-size.result c.digits_at_end-size.ensures.is
    (sym c.is_port.ensures.is ∙ c.if-not-is_port.false) (sym c.has_dot.ensures ∙ c.if-not-has_dot.false)
    c.in-Some.address (sym c.address_of.ensures ∙ c.in-Some.is)

pub returns-in-None : goal.returns-in-None
returns-in-None c =
    no_address c.args.run.now c.digits_at_end-size.result c.digits_at_end-size.ensures.is
    (sym c.is_port.ensures.is ∙ c.if-not-is_port.false) (sym c.has_dot.ensures ∙ c.if-not-has_dot.false)
    (sym c.address_of.ensures ∙ c.in-None.is)
