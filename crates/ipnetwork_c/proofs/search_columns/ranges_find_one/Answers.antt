use Rattle.ipnetwork_c.proofs.Known.{ℕ, subst, arith, RangeQuery, range_fault_is_byte}
use Rattle.ipnetwork_c.proofs.search_columns.ranges_find_one.Goals as goal

pub overflow_cast-result : goal.overflow_cast-result
overflow_cast-result g c = let small = range_fault_is_byte g.H.HoldsNetwork.held c.args.ranges.now c.args.told.now _
    c.place_near.ensures in omega arith

pub returns : goal.returns
returns g c = subst (λ (x : ℕ). RangeQuery g.H.HoldsNetwork.held c.args.ranges.now c.args.told.now x c.args.place.now
    c.place_near.new.place c.place_near.result) c.number_in-number.ensures c.place_near.ensures
