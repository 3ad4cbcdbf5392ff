use Rattle.ipnetwork_addr.proofs.Known.{segments_octets_high}
use Rattle.ipnetwork_addr.proofs.segments.octets_high_first.Goals as goal

pub returns : goal.returns
returns c = rw (
  c.high_octet.ensures,
  c.low_octet.ensures,
  c.high_octet-2.ensures,
  c.low_octet-2.ensures,
  c.high_octet-3.ensures,
  c.low_octet-3.ensures,
  c.high_octet-4.ensures,
  c.low_octet-4.ensures,
  c.high_octet-5.ensures,
  c.low_octet-5.ensures,
  c.high_octet-6.ensures,
  c.low_octet-6.ensures,
  c.high_octet-7.ensures,
  c.low_octet-7.ensures,
  c.high_octet-8.ensures,
  c.low_octet-8.ensures,
)
    (segments_octets_high c.args.segments.now (record { eight = c.told-segments; each = c.fits-segments }))
