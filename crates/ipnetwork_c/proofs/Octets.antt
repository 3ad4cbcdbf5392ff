-- The octets of a number give that number.
use Rattle.ipnetwork_c.proofs.Words.{◌≡◌, ℕ, zero, suc, ◌+◌, ◌*◌, ◌/◌, ◌%◌, ◌^◌, ◌<◌, ap, ap₂, ◌∙◌, arith, subst, div-lt_iff_lt-mul, number_push, div-add-mod', digits_in, Network, IsNetwork, Ipv4InC, Ipv6InC, v4_in, v6_in, HoldsV4, HoldsV6, number_of_octets}
use native.Mathlib.Nat.{pow-suc}

pub number_again : (count n : ℕ) → n < 256 ^ count → number_of_octets (digits_in 256 count n) ≡ n
number_again zero n fits = omega (arith, fits)
number_again (suc count) n fits =
    let more : n < 256 ^ count * 256 = subst (λ m. n < m) (pow-suc 256 count) fits in
    let front : n / 256 < 256 ^ count = (div-lt_iff_lt-mul (omega arith)).1 more in
    let parts : n / 256 * 256 + n % 256 ≡ n = div-add-mod' n 256 in
    number_push 256 (digits_in 256 count (n / 256)) (n % 256)
    ∙ ap (λ m. m * 256 + n % 256) (number_again count (n / 256) front) ∙ parts

pub v4_again : (held : Ipv4InC) (n : Network) → IsNetwork 32 n → HoldsV4 held n → v4_in held ≡ n
v4_again held n is holds =
    ap₂ (λ a p. record { address = a; prefix = p })
    (ap number_of_octets holds.0 ∙ number_again 4 n.address is.address_fits) holds.1

pub v6_again : (held : Ipv6InC) (n : Network) → IsNetwork 128 n → HoldsV6 held n → v6_in held ≡ n
v6_again held n is holds =
    ap₂ (λ a p. record { address = a; prefix = p })
    (ap number_of_octets holds.0 ∙ number_again 16 n.address is.address_fits) holds.1
