use Rattle.program.proofs.Known.{◌∙◌, sym, ap, string_bytes, name_within, name_past}
use Rattle.program.proofs.command_line.text_at.Goals as goal

pub returns-in-Some : goal.returns-in-Some
returns-in-Some c =
    let lookup = c.in-Some.ensures.lookup in
    c.as_str.ensures.value ∙ ap string_bytes lookup.1
    ∙ sym (name_within c.args.words.now c.args.place c.in-Some.word.now lookup.3.0)

pub returns-in_default : goal.returns-in_default
returns-in_default c = sym (name_past c.args.words.now c.args.place c.in_default.ensures.lookup.3)
