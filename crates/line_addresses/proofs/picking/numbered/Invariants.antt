use Rattle.line_addresses.proofs.Known.{◌≡◌, ◌-◌, ◌≤◌, length, drop, slice_get, found_of}
use Rattle.line_addresses.proofs.picking.numbered.Given as goal

abbrev pub invariant-addresses : goal.invariant-addresses
invariant-addresses l = record {
  within : l.at ≤ length l.text;
  same : slice_get (found_of l.networks l.text) (l.number - 1) ≡ slice_get
      (found_of l.networks (drop l.at l.text)) l.more;
}

abbrev pub decreases-addresses : goal.decreases-addresses
decreases-addresses l = length l.text - l.at
