use Rattle.ipnetwork_addr.proofs.Known.{sym, subst, AreValuesOf, lanes_are, values_of_lanes}
use Rattle.ipnetwork_addr.proofs.digit_lanes.values_of.Goals as goal

pub returns : goal.returns
returns c =
    subst (AreValuesOf c.args.bytes) (sym (lanes_are c.args.bytes 16 c.fits-bytes.0))
    (values_of_lanes c.args.bytes c.fits-bytes.0 c.fits-bytes.1)
