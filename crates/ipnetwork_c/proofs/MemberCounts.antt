-- The number of members of a network, and the position of each in their list.
use Rattle.ipnetwork_c.proofs.Words.{◌≡◌, ℕ, ◌+◌, ◌/◌, ◌%◌, ◌^◌, ◌<◌, List, [], ◌∷◌, ◌++◌, length, arith, ap, sym, ◌∙◌, number_push, slice_get-get_or, Network, low, high, block_size, members, size_pos, length-count_up, get_or-count_up, octets_of_v6, IsNth, number_of_octets}
use Rattle.std.proofs.Common.{Some}
use Rattle.ipnetwork_c.proofs.Octets.{number_again}

pub ends_apart : (w : ℕ) (n : Network) → low w n + length (members w n) ≡ high w n + 1
ends_apart w n =
    let size = length-count_up (low w n) (block_size w n.prefix) in
    let some = size_pos w n.prefix in
    omega (arith, size, some)

pub nth_from_least : (w : ℕ) (n : Network) (i x : ℕ) → i < length (members w n) → x ≡ low w n + i → IsNth w n i x
nth_from_least w n i x below is =
    let size = length-count_up (low w n) (block_size w n.prefix) in
    let fits : i < block_size w n.prefix = omega (arith, below, size) in
    slice_get-get_or (members w n) i 0 below
    ∙ ap Some (get_or-count_up (low w n) (block_size w n.prefix) i 0 fits ∙ sym is)

-- one more than a number, as all its octets but the last, and the last
pub next_in_octets : (last high : ℕ) (front octets : List ℕ) → last < 2 ^ 128 → high ≡ last / 256 + (last % 256 + 1) /
    256 → front ≡ octets_of_v6 high → octets ≡ front ++ (last % 256 + 1) % 256 ∷ [] → number_of_octets octets ≡ last + 1
next_in_octets last high front octets fits high_is front_is is =
    let small : high < 2 ^ 128 = omega (arith, fits, high_is) in
    let front_number = ap number_of_octets front_is ∙ number_again 16 high small in
    ap number_of_octets is ∙ number_push 256 front ((last % 256 + 1) % 256) ∙ omega (arith, high_is, front_number)
