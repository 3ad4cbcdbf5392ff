use Rattle.ipnetwork_c.proofs.Known.{refl, On}
use Rattle.ipnetwork_c.proofs.sizes.ipnetwork_v6_nth.Goals as goal

pub returns-in-Some-nth : goal.returns-in-Some-nth
returns-in-Some-nth c =
    let held = c.in-Some.ensures in
    On (
      held.0,
      On (_, rw (held.1, c.from.ensures, c.address_of.ensures) at c.in-Some-nth.ensures, (refl, c.octets.ensures)),
    )
