use Rattle.ipnetwork_index.proofs.Known.{arith, narrows, narrowed_to}
use Rattle.ipnetwork_index.proofs.search.narrowed.Goals as goal

pub narrowing-preserved : goal.narrowing-preserved
narrowing-preserved g c =
    narrows _ _ _ _ _ _ c.requires.ascending c.narrowing.invariant (omega arith)
    c.below_of_four.ensures

pub returns : goal.returns
returns g c = narrowed_to _ _ _ _ _ c.narrowing.invariant (omega arith) c.below_of_four-2.ensures
