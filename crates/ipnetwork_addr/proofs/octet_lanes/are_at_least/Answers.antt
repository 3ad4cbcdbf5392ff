use Rattle.ipnetwork_addr.proofs.Known.{arith, w8, eqb-true, none_less}
use Rattle.ipnetwork_addr.proofs.octet_lanes.are_at_least.Goals as goal

pub returns : goal.returns
returns c none = none_less w8 c.args.lanes c.args.least 16 c.fits-lanes.0 c.fits-least.0 (omega arith)
    (eqb-true _ _ none)
