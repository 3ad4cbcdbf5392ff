use Rattle.line_addresses.proofs.Known.{sym, ◌∙◌, word_before, no_word_before, no_colon_behind}
use Rattle.line_addresses.proofs.named.behind_word.Goals as goal

pub returns-in_default-clause-rest : goal.returns-in_default-clause-rest
returns-in_default-clause-rest c = no_colon_behind c.args.text.now c.in_default.ensures

pub returns-then-is_word-clause-rest : goal.returns-then-is_word-clause-rest
returns-then-is_word-clause-rest c =
    word_before c.args.text.now c.in-Some.colon c.in-Some.ensures (sym c.is_word.ensures ∙ c.if-is_word.true)

pub returns-else-is_word-clause-rest : goal.returns-else-is_word-clause-rest
returns-else-is_word-clause-rest c =
    no_word_before c.args.text.now c.in-Some.colon c.in-Some.ensures (sym c.is_word.ensures ∙ c.if-is_word.false)
