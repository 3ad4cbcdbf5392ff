use Rattle.ipnetwork_c.proofs.Known.{ℕ, List, map, arith, length-map, Network, On, kept_by, too_many, all_put, fits_too, kept_fits}
use Rattle.ipnetwork_c.proofs.set_operations.operate.Goals as goal

pub returns-then-wanted-blocks : goal.returns-then-wanted-blocks
returns-then-wanted-blocks g c =
    let w : ℕ = g.N.CidrNetwork.WIDTH in
    let first : List Network = map g.H.HoldsNetwork.held c.args.first.now in
    let second : List Network = map g.H.HoldsNetwork.held c.args.second.now in
    let told = c.put_kept-wanted.ensures in
    let fit = fits_too g.H.HoldsNetwork.holds g.H.HoldsNetwork.held w g.met.H.Listed.fitting in
    On (
      (
        fit _ (c.all_fit.ensures.0 c.if-not-all_fit.false),
        fit _ (c.all_fit-else-not-all_fit.ensures.0 c.if-not-all_fit-2.false),
      ),
      On (
        (
          c.is_address_set.ensures.0 c.if-not-is_address_set.false,
          c.is_address_set-else-not-is_address_set.ensures.0 c.if-not-is_address_set-2.false,
        ),
        too_many w g.H.HoldsNetwork.held (kept_by c.args.operation w first second) c.args.blocks.now told.0
            c.args.count.now c.put_kept-wanted.result c.to_usize-2.result told.1 told.2.counted
            (omega (arith, c.if-wanted-blocks.true)) c.to_usize-2.ensures,
      ),
    )

pub returns : goal.returns
returns g c =
    let w : ℕ = g.N.CidrNetwork.WIDTH in
    let first : List Network = map g.H.HoldsNetwork.held c.args.first.now in
    let second : List Network = map g.H.HoldsNetwork.held c.args.second.now in
    let told = c.put_kept-wanted.ensures in
    let put = c.put_kept.ensures in
    let fit = fits_too g.H.HoldsNetwork.holds g.H.HoldsNetwork.held w g.met.H.Listed.fitting in
    On (
      (
        fit _ (c.all_fit.ensures.0 c.if-not-all_fit.false),
        fit _ (c.all_fit-else-not-all_fit.ensures.0 c.if-not-all_fit-2.false),
      ),
      On (
        (
          c.is_address_set.ensures.0 c.if-not-is_address_set.false,
          c.is_address_set-else-not-is_address_set.ensures.0 c.if-not-is_address_set-2.false,
        ),
        all_put w g.H.HoldsNetwork.held (kept_by c.args.operation w first second) c.args.blocks.now c.put_kept.new.list
            told.0 put.0 c.args.count.now c.put_kept-wanted.result c.to_usize-2.result c.put_kept.result told.1
            told.2.counted
            (omega (arith, c.if-wanted-blocks.false)) (omega arith) c.to_usize-2.ensures put.1 put.2,
      ),
    )

pub returns-then-surely_fits : goal.returns-then-surely_fits
returns-then-surely_fits g c =
    let w : ℕ = g.N.CidrNetwork.WIDTH in
    let held = g.H.HoldsNetwork.held in
    let first : List Network = map held c.args.first.now in
    let second : List Network = map held c.args.second.now in
    let put = c.put_kept-put.ensures in
    let fit = fits_too g.H.HoldsNetwork.holds held w g.met.H.Listed.fitting in
    let one = c.is_address_set.ensures.0 c.if-not-is_address_set.false in
    let other = c.is_address_set-else-not-is_address_set.ensures.0 c.if-not-is_address_set-2.false in
    let room = kept_fits w first second one other c.args.operation _ _ _ put.0 c.shortest.ensures.common
    c.shortest.ensures.union (omega (arith, length-map c.args.first.now held))
    (omega (arith, length-map c.args.second.now held)) (c.surely_fits.ensures c.if-surely_fits.true) put.1 in
    On (
      (
        fit _ (c.all_fit.ensures.0 c.if-not-all_fit.false),
        fit _ (c.all_fit-else-not-all_fit.ensures.0 c.if-not-all_fit-2.false),
      ),
      On (
        (one, other),
        all_put w held (kept_by c.args.operation w first second) c.args.blocks.now c.put_kept-put.new.list
            put.0 put.0 c.args.count.now c.put_kept-put.result c.to_usize.result c.put_kept-put.result put.1
            put.2.counted (omega (arith, put.2.counted, room)) (omega arith) c.to_usize.ensures put.1 put.2,
      ),
    )
