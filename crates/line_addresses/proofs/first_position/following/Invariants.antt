use Rattle.line_addresses.proofs.Known.{◌≡◌, ◌-◌, ◌≤◌, length, following, from_at}
use Rattle.line_addresses.proofs.first_position.following.Given as goal

abbrev pub invariant-positions : goal.invariant-positions
invariant-positions l = record {
  within : l.at ≤ length l.line;
  same : following l.text l.line ≡ from_at l.text l.line l.at;
}

abbrev pub decreases-positions : goal.decreases-positions
decreases-positions l = length l.line - l.at
