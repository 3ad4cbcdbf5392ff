use Rattle.line_addresses.proofs.Known.{◌-◌, ◌≤◌, length, IfSome, found_of, IsLast, Lies}
use Rattle.line_addresses.proofs.picking.last.Given as goal

abbrev pub invariant-addresses : goal.invariant-addresses
invariant-addresses l = record {
  within : l.at ≤ length l.text;
  same : IsLast (found_of l.networks) l.text l.at l.last;
  lies : IfSome l.last (Lies l.text);
}

abbrev pub decreases-addresses : goal.decreases-addresses
decreases-addresses l = length l.text - l.at
