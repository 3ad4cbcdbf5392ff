use Rattle.ipnetwork_addr.proofs.Known.{◌-◌, drop, arith, append-nil, length-drop, drop_all, put_chunk_is}
use Rattle.std.proofs.Common.{take_all}
use Rattle.ipnetwork_addr.proofs.digit_lanes.store.Goals as goal

pub returns : goal.returns
returns c =
    let values = c.args.values.now in
    let at = c.args.at in
    let long = length-drop at values in
    rw (
      take_all (48 - at) (drop at values) (omega arith),
      put_chunk_is 0 (drop at values) c.args.lanes (omega (arith, c.fits-lanes.0)),
      drop_all (48 - at)
          (drop at values) (omega arith),
      append-nil,
      put_chunk_is at values c.args.lanes (omega (arith, c.fits-lanes.0)),
    )
