use Rattle.program.proofs.Known.{refl, begins}
use Rattle.program.proofs.log_reader.LogReader.new.Goals as goal

pub returns-clause-begins : goal.returns-clause-begins
returns-clause-begins c = λ remained. begins _ remained refl c.new.ensures.limit c.new.ensures.holds c.new.ensures.ended
