use Rattle.line_addresses.proofs.Known.{◌≡◌, ◌-◌, ◌≤◌, length, drop, addresses_of}
use Rattle.line_addresses.proofs.found.next_address.Given as goal

abbrev pub invariant-runs : goal.invariant-runs
invariant-runs l = record {
  behind : l.from ≤ l.at;
  same : addresses_of (drop l.from l.line) ≡ addresses_of (drop l.at l.line);
}

abbrev pub decreases-runs : goal.decreases-runs
decreases-runs l = length l.line - l.at
