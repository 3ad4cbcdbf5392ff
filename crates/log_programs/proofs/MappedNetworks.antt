-- Networks as they are looked up.
use Rattle.log_programs.proofs.Words.{◌≡◌, refl, [], ◌∷◌, V4, V6, asked_network, unmapped_network}
use Rattle.std.specs.Prelude.{map, false}

-- a network of IPv4-mapped addresses is looked up as the network of their IPv4 addresses; a network that has other
-- addresses too is not, nor one whose address is not mapped
pub mapped_networks : map unmapped_network
    (V6 (record { address = 0xffff0a010000; prefix = 112 }) ∷ V6 (record { address = 0xffff0a010000; prefix = 96 })
    ∷ V6 (record { address = 0xffff0a010000; prefix = 95 }) ∷ V6 (record { address = 0x0a010000; prefix = 112 })
    ∷ V4 (record { address = 0x0a010000; prefix = 16 }) ∷ [])
    ≡ V4 (record { address = 0x0a010000; prefix = 16 }) ∷ V4 (record { address = 0x0a010000; prefix = 0 })
    ∷ V6 (record { address = 0xffff0a010000; prefix = 95 }) ∷ V6 (record { address = 0x0a010000; prefix = 112 })
    ∷ V4 (record { address = 0x0a010000; prefix = 16 }) ∷ []
mapped_networks = refl

-- and only if that is asked for
pub mapped_network_as_it_is : asked_network false (V6 (record { address = 0xffff0a010000; prefix = 112 }))
    ≡ V6 (record { address = 0xffff0a010000; prefix = 112 })
mapped_network_as_it_is = refl
