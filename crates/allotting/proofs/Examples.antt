-- Lengths, places and numbers of hosts at which a wrong definition would show. Each of these computes.
use Rattle.allotting.proofs.Words.{◌≡◌, ◌∷◌, ◌^◌, ◌-◌, [], refl, map, host_count}

-- hosts of the smallest blocks, from one address on
pub hosts_of_v4 : map (host_count 32) (32 ∷ 31 ∷ 30 ∷ 29 ∷ 24 ∷ 0 ∷ []) ≡ 1 ∷ 2 ∷ 2 ∷ 6 ∷ 254 ∷ 4294967294 ∷ []
hosts_of_v4 = refl

pub hosts_of_v6 : map (host_count 128) (128 ∷ 127 ∷ 126 ∷ 125 ∷ 120 ∷ 64 ∷ 0 ∷ [])
    ≡ 1 ∷ 2 ∷ 3 ∷ 7 ∷ 255 ∷ 18446744073709551615 ∷ (2 ^ 128 - 1) ∷ []
hosts_of_v6 = refl
