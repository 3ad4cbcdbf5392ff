use Rattle.cidr_merge.proofs.Known.{ℕ, List, ap, tells_on, tells_same, place_text}
use Rattle.cidr_merge.proofs.overlapping.tell_pair.Goals as goal

pub returns : goal.returns
returns g c =
    let old = c.args.output.now in
    let later = c.args.later.now in
    let earlier = c.args.earlier.now in
    let first =
    tells_same old c.tell_place.new.output _ _ (ap
    (λ (n : List ℕ). place_text n later.number) c.text_at.ensures) c.tell_place.ensures in
    let second =
    tells_same c.tell-3.new.errors c.tell_place-2.new.output _ _
    (ap (λ (n : List ℕ). place_text n earlier.number) c.text_at-2.ensures) c.tell_place-2.ensures in
    let says =
    tells_same c.tell.new.errors c.tell-2.new.errors _ _ c.relation.ensures c.tell-2.ensures in
    tells_on (tells_on (tells_on (tells_on (tells_on first c.tell.ensures) says) c.tell-3.ensures)
    second) c.tell-4.ensures
