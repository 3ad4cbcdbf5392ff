use Rattle.ipnetwork_addr.proofs.Known.{positions_ok, lanes_at}
use Rattle.ipnetwork_addr.proofs.octet_lanes.digits_of_row.Goals as goal

pub swizzle : goal.swizzle
swizzle c = positions_ok c.args.row _ c.requires c.positions_of_row.ensures

pub returns : goal.returns
returns c = lanes_at c.args.bytes c.args.row _ c.fits-bytes.0 c.positions_of_row.ensures
