use Rattle.lists.proofs.Known.{◌≡◌, ◌-◌, length, drop, has_gap}
use Rattle.lists.proofs.looks.has_gap.Given as goal

-- the bytes before this one have no `:` directly after another
abbrev pub invariant-bytes : goal.invariant-bytes
invariant-bytes l = has_gap l.text ≡ has_gap (drop l.at l.text)

abbrev pub decreases-bytes : goal.decreases-bytes
decreases-bytes l = length l.text - l.at
