use Rattle.cidr_merge.proofs.Known.{◌∙◌, List, ap, arith, length, subst, AreOuters, Place, all_placed}
use Rattle.cidr_merge.proofs.sought_places.places_of.Goals as goal

pub returns : goal.returns
returns c =
    all_placed c.args.of_v6 c.args.sought.now c.loop-place.sorted.items
    (record { sorted = c.sort_unstable.new.self; outers = c.in_ok-outers.outers })
    c.loop-place.place
    (omega arith) c.loop-place.invariant c.sort_unstable.ensures.permutation c.sort_unstable.ensures.sorted
    (c.in_ok-outers.ensures.many ∙ ap length c.as_slice.ensures.value)
    (subst (λ (ps : List Place). AreOuters ps c.in_ok-outers.outers.items) c.as_slice.ensures.value
    c.in_ok-outers.ensures.outers)
