use Rattle.ipnetwork_sets.proofs.Known.{ℕ, List, map, arith, refl, ap, length, length-map, failed, read_as, numbers, has_none, has_one_more, set_of_ranges, way_starts, way_goes_on, way_had_no_room}
use Rattle.ipnetwork_sets.proofs.address_set.AddressSet.from_ranges.Goals as goal

pub loop-range-init : goal.loop-range-init
loop-range-init g c =
    let rs : List (ℕ × ℕ) = map (numbers g.N.CidrNetwork.number) c.args.ranges.now in
    record {
      ranges = has_none g.N.CidrNetwork.WIDTH (map g.N.CidrNetwork.pair c.clear.new.self.items)
          (ap (map g.N.CidrNetwork.pair) c.clear.ensures.items);
      way = way_starts g.N.CidrNetwork.WIDTH rs (length c.clear.new.self.items) (ap length c.clear.ensures.items);
      room = omega (arith, c.clear.ensures.capacity);
    }

pub loop-range-preserved : goal.loop-range-preserved
loop-range-preserved g c =
    let w : ℕ = g.N.CidrNetwork.WIDTH in
    let rs : List (ℕ × ℕ) = map (numbers g.N.CidrNetwork.number) c.args.ranges.now in
    let size = length-map c.args.ranges.now (numbers g.N.CidrNetwork.number) in
    let i : ℕ = c.loop-range.range-index in
    let is = read_as (numbers g.N.CidrNetwork.number) c.args.ranges.now i c.range-item.result (omega arith)
    c.range-item.is in
    record {
      ranges =
          has_one_more w (map g.N.CidrNetwork.pair c.loop-range.memory.items) (map g.N.CidrNetwork.pair
          c.push_range.new.networks.items) rs i (numbers g.N.CidrNetwork.number c.range-item.result)
          c.ranges_are_shortest.ensures.range c.loop-range.invariant.ranges (omega arith) is
          c.push_range.ensures.address c.in_ok-push_range.ensures.added;
      way =
          way_goes_on g.N.CidrNetwork.pair w i rs (numbers g.N.CidrNetwork.number c.range-item.result)
          c.loop-range.memory.items c.push_range.new.networks.items _ _ (omega arith) is
          c.loop-range.invariant.way c.in_ok-push_range.ensures.added refl refl;
      room = omega (arith, c.loop-range.invariant.room, c.push_range.ensures.capacity);
    }

pub returns-in_err-push_range-clause-room : goal.returns-in_err-push_range-clause-room
returns-in_err-push_range-clause-room g c = λ blocks h.
    let w : ℕ = g.N.CidrNetwork.WIDTH in
    let rs : List (ℕ × ℕ) = map (numbers g.N.CidrNetwork.number) c.args.ranges.now in
    let size = length-map c.args.ranges.now (numbers g.N.CidrNetwork.number) in
    let i : ℕ = c.loop-range.range-index in
    let is = read_as (numbers g.N.CidrNetwork.number) c.args.ranges.now i c.range-item.result (omega arith)
    c.range-item.is in
    let len = c.loop-range.memory.ok.0 in
    failed c.from_residual.result
    (way_had_no_room w i rs (numbers g.N.CidrNetwork.number c.range-item.result) _ _ _ (omega arith) is
    c.loop-range.invariant.way c.loop-range.invariant.room
    (λ bs k. let full = c.in_err-push_range.ensures.room bs k in omega (arith, full, len)) blocks h)

pub returns-clause-set : goal.returns-clause-set
returns-clause-set g c =
    let rs : List (ℕ × ℕ) = map (numbers g.N.CidrNetwork.number) c.args.ranges.now in
    let size = length-map c.args.ranges.now (numbers g.N.CidrNetwork.number) in
    set_of_ranges g.N.CidrNetwork.WIDTH (map g.N.CidrNetwork.pair c.loop-range.memory.items) c.from_networks.result rs
    c.loop-range.range-index c.loop-range.invariant.ranges (omega arith) c.from_networks.ensures
