use Rattle.ipnetwork_addr.proofs.Known.{weights_ok, octets_read}
use Rattle.ipnetwork_addr.proofs.octet_lanes.octets_of_row.Goals as goal

pub dot4-octets : goal.dot4-octets
dot4-octets c = (
  weights_ok c.args.bytes c.args.row _ c.digits_of_row-digits.ensures
      (c.are_at_least-2.ensures c.if-not-are_at_least-2.false),
  tt,
)

pub returns : goal.returns
returns c =
    octets_read c.args.bytes c.args.row _ c.fits-bytes.1 c.fits-bytes.0 c.requires c.digits_of_row-digits.ensures
    (rw c.least_of_row.ensures at (c.are_at_least.ensures c.if-not-are_at_least.false))
    (c.are_at_least-2.ensures c.if-not-are_at_least-2.false) c.if-octets-ne0.false
