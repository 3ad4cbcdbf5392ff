use Rattle.ipnetwork_index.proofs.Known.{◌≡◌, ℕ, ◌%◌, ◌<◌, get_or}
use Rattle.ipnetwork_index.proofs.low_halves.write_lows.Given as goal

abbrev pub invariant-loop-place : goal.invariant-loop-place
invariant-loop-place l =
    (k : ℕ) → k < l.place → get_or l.lows k 0 ≡ get_or l.numbers k 0 % 65536
