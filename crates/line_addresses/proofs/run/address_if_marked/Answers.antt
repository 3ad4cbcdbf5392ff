use Rattle.line_addresses.proofs.Known.{sym, ◌∙◌, none_unmarked}
use Rattle.line_addresses.proofs.run.address_if_marked.Goals as goal

pub returns-then-not-has_mark : goal.returns-then-not-has_mark
returns-then-not-has_mark c =
    none_unmarked c.named_address.ensures c.v4_text_has_a_dot_first.ensures c.v6_text_has_a_colon_first.ensures
    c.args.run.now (sym c.has_mark.ensures ∙ c.if-not-has_mark.true)
