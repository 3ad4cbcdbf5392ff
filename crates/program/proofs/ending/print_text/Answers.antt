use Rattle.program.proofs.Known.{ending, text_printed}
use Rattle.program.proofs.ending.print_text.Goals as goal

pub returns : goal.returns
returns g c =
    let written = c.write_text-written in
    text_printed written.result c.args.text.now
    (ending c.args.output.now written.new.output c.args.errors.now c.end.new.errors c.end.result)
    written.ensures.written written.ensures.cut written.ensures.failed c.end.ensures
