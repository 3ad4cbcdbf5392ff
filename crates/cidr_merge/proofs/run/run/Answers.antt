use Rattle.cidr_merge.proofs.Known.{inl, refl, ending, not_asked, printed, HELP, VERSION}
use Rattle.cidr_merge.proofs.run.run.Goals as goal

pub returns-in-Some : goal.returns-in-Some
returns-in-Some g c =
    let end = ending c.args.output.now c.print_text.new.output
    c.args.errors.now c.print_text.new.errors c.print_text.result in
    printed HELP.now VERSION.now c.args.words.now _ end c.in-Some.text.now c.in-Some.ensures
    c.print_text.ensures

pub returns-in-Err : goal.returns-in-Err
returns-in-Err g c =
    let end = ending c.args.output.now c.args.output.now c.args.errors.now c.refuse_memory.new.errors
    c.refuse_memory.result in
    not_asked HELP.now VERSION.now c.args.words.now _ end c.in_default.ensures
    (inl ((refl, c.refuse_memory.ensures.status), (c.args.errors.now, c.refuse_memory.ensures.told)))
