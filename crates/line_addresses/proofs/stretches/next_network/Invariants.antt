use Rattle.line_addresses.proofs.Known.{◌≡◌, ◌-◌, ◌≤◌, length, drop, networks_of}
use Rattle.line_addresses.proofs.stretches.next_network.Given as goal

abbrev pub invariant-stretches : goal.invariant-stretches
invariant-stretches l = record {
  behind : l.from ≤ l.at;
  within : l.at ≤ length l.line;
  same : networks_of (drop l.from l.line) ≡ networks_of (drop l.at l.line);
}

abbrev pub decreases-stretches : goal.decreases-stretches
decreases-stretches l = length l.line - l.at
