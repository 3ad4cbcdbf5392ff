-- Networks with host bits and without. Each of these computes.
use Rattle.lists.proofs.Words.{◌≡◌, ◌∷◌, [], map, true, false, refl, V4, V6, Range, has_host_bits, lenient, refuses}
use Rattle.ipnetwork.specs.declared.ip_network.IpNetwork.TheVariants as networks
use Rattle.lists.specs.declared.entry.Entry.TheVariants.{Network}

pub host_bits : map has_host_bits (Network (networks.V4 (record { address = 0x0a000005; prefix = 8 }))
    ∷ Network (networks.V4 (record { address = 1; prefix = 0 })) ∷ Network (networks.V6 (record { address = 1; prefix = 127 }))
    ∷ []) ≡ true ∷ true ∷ true ∷ []
host_bits = refl

pub no_host_bits : map has_host_bits (Network (networks.V4 (record { address = 0x0a000000; prefix = 8 }))
    ∷ Network (networks.V4 (record { address = 1; prefix = 32 })) ∷ Network (networks.V6 (record { address = 2; prefix = 127 }))
    ∷ Range (V4 1) (V4 2) ∷ []) ≡ false ∷ false ∷ false ∷ false ∷ []
no_host_bits = refl

pub only_if_asked : refuses lenient (Network (networks.V4 (record { address = 1; prefix = 0 })))
    ≡ false
only_if_asked = refl
