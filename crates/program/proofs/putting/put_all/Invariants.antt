use Rattle.program.proofs.Known.{◌≡◌, ℕ, List, ◌++◌, drop, flat_map, Prints}
use Rattle.program.proofs.putting.put_all.Given as goal

-- what was put, and the texts that are left, are all
abbrev pub invariant-loop-text : goal.invariant-loop-text
invariant-loop-text g l = (done : List ℕ) × Prints l.initial.output l.output done
    × (l.output.failed ≡ l.initial.output.failed)
    × (done ++ flat_map (λ text. text.now) (drop l.text-index l.texts) ≡ flat_map (λ text. text.now) l.texts)
