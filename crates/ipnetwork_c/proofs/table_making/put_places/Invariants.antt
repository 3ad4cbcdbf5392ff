use Rattle.ipnetwork_c.proofs.Known.{◌≡◌, ℕ, ◌<◌, get_or}
use Rattle.ipnetwork_c.proofs.table_making.put_places.Given as goal

abbrev pub invariant-loop-place : goal.invariant-loop-place
invariant-loop-place l = (k : ℕ) → k < l.place → get_or l.places k 0 ≡ k
