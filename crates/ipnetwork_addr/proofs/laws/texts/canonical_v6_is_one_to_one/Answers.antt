use Rattle.ipnetwork_addr.proofs.Known.{◌≡◌, arith, lit≤, canonical_v6, canonical_v6_one_to_one}
use Rattle.ipnetwork_addr.proofs.laws.texts.canonical_v6_is_one_to_one.Goals as goal

pub returns : goal.returns
returns c = canonical_v6_one_to_one

-- example: the least and the greatest address
pub ends_print_apart : goal.returns → goal.Start
    → ¬ (canonical_v6 0 ≡ canonical_v6 340282366920938463463374607431768211455)
ends_print_apart law c same =
    let one : 0 ≡ 340282366920938463463374607431768211455 =
    (law c 0 340282366920938463463374607431768211455 (lit≤ tt) (lit≤ tt)).1 same in
    omega (arith, one)
