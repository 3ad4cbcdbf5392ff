use Rattle.cidr_merge.proofs.Known.{◌-◌, arith, get_or, refl, subst, sym, take, HaveReaching, reaching_less, reaching_more, take_more_set}
use Rattle.cidr_merge.proofs.sought_places.put_reaching.Goals as goal

pub loop-end-preserved-then-places-end : goal.loop-end-preserved-then-places-end
loop-end-preserved-then-places-end c =
    let places = c.args.places.now in
    let end = c.loop-end.end in
    let count = c.loop-end.count in
    let some = c.loop-end-test.true in
    let room = c.loop-end.invariant.room in
    let place = (get_or places (end - 1) (0, 0, 0)).2 in record {
      room = omega (arith, room, some);
      found = subst (HaveReaching places (end - 1) c.args.begin c.args.first)
          (sym (take_more_set c.loop-end.buffer count place
          (omega (arith, room, some, c.requires.room, c.loop-end.auto.buffer))))
          (reaching_more places end c.args.begin c.args.first place (take count c.loop-end.buffer) (0, 0, 0) some
          (omega (arith, room)) c.requires.within refl c.loop-end.invariant.found);
    }

pub loop-end-preserved : goal.loop-end-preserved
loop-end-preserved c =
    let room = c.loop-end.invariant.room in
    let less = reaching_less c.args.places.now c.args.outers.now c.loop-end.end c.args.begin c.args.first 0 (0, 0, 0)
    (take c.loop-end.count c.loop-end.buffer) c.requires.outers c.loop-end-test.true (omega (arith, room))
    c.requires.within c.requires.many c.if-places-end.false c.loop-end.invariant.found in
    let sooner = less.0 in record { room = omega (arith, room, sooner); found = less.1 }
