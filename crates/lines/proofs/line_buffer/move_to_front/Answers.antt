use Rattle.lines.proofs.Known.{kept_front}
use Rattle.lines.proofs.line_buffer.move_to_front.Goals as goal

pub returns-clause-front : goal.returns-clause-front
returns-clause-front c = kept_front c.args.buffer.now c.copy_within.new.self c.args.start c.args.end c.requires.order
    c.requires.within c.copy_within.ensures.after
