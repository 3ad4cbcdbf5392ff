use Rattle.ipnetwork_c.proofs.Known.{arith, RangeQuery, item_row_more, each_row_answered}
use Rattle.ipnetwork_c.proofs.search_columns.ranges_find_each.Goals as goal

pub loop-row-preserved : goal.loop-row-preserved
loop-row-preserved g c = item_row_more (λ octets. RangeQuery g.H.HoldsNetwork.held c.args.ranges.now c.args.told.now
    (g.H.Numbered.meant octets)) c.args.addresses.now g.H.Numbered.no_octets c.index-addresses-row.result c.loop-row.row
    c.args.places.now c.loop-row.places c.args.faults.now c.loop-row.faults c.ranges_find_one.new.place
    c.ranges_find_one.result c.loop-row.invariant (omega arith) (omega arith) (omega arith) c.index-addresses-row.is
    c.ranges_find_one.ensures

pub returns : goal.returns
returns g c = each_row_answered (λ octets. RangeQuery g.H.HoldsNetwork.held c.args.ranges.now c.args.told.now
    (g.H.Numbered.meant octets)) c.args.addresses.now g.H.Numbered.no_octets c.loop-row.row c.args.places.now
    c.loop-row.places c.args.faults.now c.loop-row.faults c.loop-row.invariant (omega arith) (omega arith) (omega arith)
