use Rattle.line_addresses.proofs.Known.{◌≡◌, ◌-◌, ◌≤◌, length, drop, opened, opened_from}
use Rattle.line_addresses.proofs.value.opened_at.Given as goal

abbrev pub invariant-bytes : goal.invariant-bytes
invariant-bytes l = record {
  within : l.at ≤ length l.text;
  same : opened l.text ≡ opened_from l.before (drop l.at l.text);
}

abbrev pub decreases-bytes : goal.decreases-bytes
decreases-bytes l = length l.text - l.at
