use Rattle.ipnetwork_table.proofs.Known.{answer_exists, answer_is_one}
use Rattle.ipnetwork_table.proofs.laws.lookups.one_answer.Goals as goal

pub returns : goal.returns
returns g c =
    record { exists = answer_exists; one = λ w t x a b blocks here there. answer_is_one w t x blocks a b here there }
