use Rattle.ipnetwork.proofs.Known.{◌≡◌, Result, Ok, refl, arith, codes, digits, CidrFault, IpNetwork, V4, V6, ReadsIpNetwork, ip_network_text, reads_back}
use Rattle.ipnetwork.proofs.laws.texts.canonical_ip_network_reads_back.Goals as goal

pub returns : goal.returns
returns c n result h = reads_back c.ip_network_text_names_one.ensures (ip_network_text n) n result
    (c.canonical_ip_network_names_it.ensures n h)

-- examples in either family, with host bits
pub v4_is_read : goal.returns → goal.After-canonical_ip_network_names_it → (result : Result IpNetwork CidrFault)
    → ReadsIpNetwork (codes "10.1.9.32/16") result → result ≡ Ok (V4 (record { address = 167840032; prefix = 16 }))
unfolding digits
v4_is_read law c result = (law c (V4 (record { address = 167840032; prefix = 16 })) result
    (record { address_fits = omega arith; prefix_fits = omega arith })).0

pub v6_is_read : goal.returns → goal.After-canonical_ip_network_names_it
    → ReadsIpNetwork (codes "::1/64") (Ok (V6 (record { address = 1; prefix = 64 })))
unfolding digits
v6_is_read law c = (law c (V6 (record { address = 1; prefix = 64 })) (Ok (V6 (record { address = 1; prefix = 64 })))
    (record { address_fits = omega arith; prefix_fits = omega arith })).1 refl
