use Rattle.ipnetwork_sets.proofs.Known.{◌<◌, ℕ, List, map, refl, ap, length, arith, length-map, Network, IsPlace, IsLeft, nothing_taken, left_is_set, left_written, grew_by_more, failed, meets_none, meets_some, left_length, left_over, read_pair, refused}
use Rattle.ipnetwork_sets.proofs.changes.remove.Given.{Over}
use Rattle.ipnetwork_sets.proofs.changes.remove.Goals as goal
use Rattle.ipnetwork_sets.proofs.changes.remove.Goals.{After-saturating_sub-count}

pub returns-then-from-to : goal.returns-then-from-to
returns-then-from-to g c =
    let w : ℕ = g.N.CidrNetwork.WIDTH in
    let bs : List Network = map g.N.CidrNetwork.pair c.args.blocks.now.items in
    let n : Network = g.N.CidrNetwork.pair c.args.network in
    let place = rw c.as_slice.ensures.value at c.place_of-from.ensures in
    let none = meets_none w bs n c.place_of-from.result.0 c.place_of-from.result.1 c.one_block.ensures.apart c.requires
    c.ip.ensures.network place c.if-from-to.true in
    record {
      set = nothing_taken w bs n c.requires none;
      removed = refused none;
      room = λ _ _. tt;
      unchanged = tt;
      blocks =
          c.requires;
    }

left_there : (g : Over) (c : After-saturating_sub-count g)
    → IsLeft g.N.CidrNetwork.WIDTH (map g.N.CidrNetwork.pair c.args.blocks.now.items)
    (g.N.CidrNetwork.pair c.args.network) c.place_of-from.result.0 c.place_of-from.result.1
    c.saturating_sub-count.result c.exclude-left.result
left_there g c =
    let w : ℕ = g.N.CidrNetwork.WIDTH in
    let items = c.args.blocks.now.items in
    let bs : List Network = map g.N.CidrNetwork.pair items in
    let n : Network = g.N.CidrNetwork.pair c.args.network in
    let from : ℕ = c.place_of-from.result.0 in
    let to : ℕ = c.place_of-from.result.1 in
    let place : IsPlace w bs n from to = rw c.as_slice.ensures.value at c.place_of-from.ensures in
    let ordered = place.ordered in
    let within = place.within in
    let size = length-map items g.N.CidrNetwork.pair in
    let whole : Network = g.N.CidrNetwork.pair c.index.result.now in
    let some : from < to = omega (arith, ordered) in
    let is = read_pair g.N.CidrNetwork.pair items from c.index.result.now (omega (arith, size, within))
    c.index.ensures in
    let left : List Network = c.exclude-left.result in
    let long = left_length w bs n from to c.one_block.ensures.apart c.requires c.ip.ensures.network place whole left
    c.one_block.ensures.networks some is c.exclude-left.ensures.blocks
    c.exclude-left.ensures.none c.exclude-left.ensures.some in
    record {
      ordered = ordered;
      within = within;
      long = omega (arith, long, c.saturating_sub-count.ensures, c.prefix.ensures.made, c.prefix-2.ensures.made);
      meets = meets_some w bs n from to c.one_block.ensures.apart c.requires c.ip.ensures.network place whole some is;
      least = left_over w bs n from to c.one_block.ensures.apart c.requires c.ip.ensures.network place whole left
          c.one_block.ensures.networks some is c.exclude-left.ensures.blocks;
    }

pub returns-in_err-make_room-clause-room : goal.returns-in_err-make_room-clause-room
returns-in_err-make_room-clause-room g c = λ list h.
    failed c.from_residual.result
    (grew_by_more _ _ list _ _ _ _ _ (left_there g (goal.at.returns-in_err-make_room-clause-room g
    c).After-saturating_sub-count) h c.in_err-make_room.ensures.room)

pub write_over-requires : goal.write_over-requires
write_over-requires g c =
    let there = left_there g (goal.at.write_over-requires g c).After-saturating_sub-count in
    omega (
      arith,
      there.within,
      there.long,
      c.in_ok-make_room.ensures.made.size,
      length-map c.args.blocks.now.items g.N.CidrNetwork.pair,
      ap length c.as_mut_slice.ensures.value,
    )

pub returns : goal.returns
returns g c =
    let there = left_there g (goal.at.returns g c).After-saturating_sub-count in
    let set = left_written g.N.CidrNetwork.pair _ _ c.args.blocks.now.items c.make_room.new.blocks.items
    c.write_over.new.blocks _ _ _ c.make_room.new.blocks.len _ there
    c.in_ok-make_room.ensures.made c.make_room.new.blocks.ok.0
    (rw c.as_mut_slice.ensures.value at c.write_over.ensures) in
    let blocks = left_is_set g.N.CidrNetwork.WIDTH (map g.N.CidrNetwork.pair c.args.blocks.now.items)
    (g.N.CidrNetwork.pair c.args.network) _ set in
    record { set = set; removed = ((λ t. there.meets), (λ m. refl)); room = λ _ _. tt; unchanged = tt; blocks = blocks }
