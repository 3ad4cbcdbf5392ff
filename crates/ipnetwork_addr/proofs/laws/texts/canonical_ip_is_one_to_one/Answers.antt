use Rattle.ipnetwork_addr.proofs.Known.{◌≡◌, lit≤, canonical_ip, IpAddr, V4, V6, ip_one_to_one}
use Rattle.ipnetwork_addr.proofs.laws.texts.canonical_ip_is_one_to_one.Goals as goal

pub returns : goal.returns
returns c = ip_one_to_one

-- example: two addresses with the same number
pub families_print_apart : goal.returns → goal.Start → ¬ (canonical_ip (V4 1) ≡ canonical_ip (V6 1))
families_print_apart law c same =
    let one : ◌≡◌ {A = IpAddr} (V4 1) (V6 1) = (law c (V4 1) (V6 1) (lit≤ tt) (lit≤ tt)).1 same in
    cc
