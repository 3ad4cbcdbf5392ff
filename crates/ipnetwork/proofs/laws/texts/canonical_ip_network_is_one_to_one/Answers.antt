use Rattle.ipnetwork.proofs.Known.{◌≡◌, ap, arith, Network, prefix_of, ip_network_text, IpNetwork, V4, V6, one_to_one}
use Rattle.ipnetwork.proofs.laws.texts.canonical_ip_network_is_one_to_one.Goals as goal

pub returns : goal.returns
returns c a b h k = one_to_one c.ip_network_text_names_one.ensures a b (c.canonical_ip_network_names_it.ensures a h)
    (c.canonical_ip_network_names_it.ensures b k)

-- examples: different families, and the same set with two prefix lengths
pub families_print_apart : goal.returns → goal.After-canonical_ip_network_names_it
    → ¬ (ip_network_text (V4 (record { address = 1; prefix = 32 })) ≡ ip_network_text
    (V6 (record { address = 1; prefix = 32 })))
families_print_apart law c same =
    let n : Network = record { address = 1; prefix = 32 } in
    let one : ◌≡◌ {A = IpNetwork} (V4 n) (V6 n) =
    (law c (V4 n) (V6 n) (record { address_fits = omega arith; prefix_fits = omega arith })
    (record { address_fits = omega arith; prefix_fits = omega arith })).1 same in
    cc

pub lengths_print_apart : goal.returns → goal.After-canonical_ip_network_names_it
    → ¬ (ip_network_text (V6 (record { address = 1; prefix = 127 })) ≡ ip_network_text
    (V6 (record { address = 1; prefix = 128 })))
lengths_print_apart law c same =
    let one : 127 ≡ 128 = ap prefix_of ((law c (V6 (record { address = 1; prefix = 127 }))
    (V6 (record { address = 1; prefix = 128 })) (record { address_fits = omega arith; prefix_fits = omega arith })
    (record { address_fits = omega arith; prefix_fits = omega arith })).1 same) in
    omega (arith, one)
