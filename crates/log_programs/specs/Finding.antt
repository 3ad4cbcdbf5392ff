-- The address of a line.
use Rattle.std.specs.Prelude.{ℕ, List, Option, false, option_map}
use Rattle.ipnetwork_addr.specs.declared.ip.IpAddr.{IpAddr}
use Rattle.line_addresses.specs.Addresses.{Spelled}
use Rattle.line_addresses.specs.Areas.{part_of, picked_in}
use Rattle.line_addresses.specs.declared.area.Area.{Area}

-- the address in this area of a line, or the first of several
abbrev pub found_in : Area → List ℕ → Option IpAddr
found_in area line = option_map (λ (one : Spelled). one.address) (picked_in false area.pick (part_of area.part line))
