-- The network of prefix length 0 has all addresses, so its free part is the complement of the set.
use Rattle.ipnetwork_sets.proofs.Words.{◌≡◌, ℕ, ◌-◌, ◌/◌, ◌^◌, ◌<◌, ap, sym, subst, ◌∙◌, arith, List, Network, Member, block_size, div_within, IsLeastList, least_of_same, InNetworkAlone, InComplement}

abbrev pub whole : Network
whole = record { address = 0; prefix = 0 }

pub whole_quotient : (w x : ℕ) → x < 2 ^ w → x / block_size w 0 ≡ 0
whole_quotient w x l =
    let bits : w - 0 ≡ w = omega arith in
    let size : block_size w 0 ≡ 2 ^ w = ap (λ k. 2 ^ k) bits in
    div_within 0 (block_size w 0) x (omega arith) (omega (arith, l, size))

pub whole_has_all : (w x : ℕ) → x < 2 ^ w → Member w whole x
whole_has_all w x l = (l, whole_quotient w x l ∙ sym (whole_quotient w 0 (omega (arith, l))))

pub complement_is_least : (w : ℕ) (n : Network) (a blocks : List Network) → n ≡ whole
    → IsLeastList w (InNetworkAlone w n a) blocks → IsLeastList w (InComplement w a) blocks
complement_is_least w n a blocks e h =
    least_of_same w (InNetworkAlone w whole a) (InComplement w a) blocks
    (λ x. ((λ p. (p.0.0, p.1)), (λ p. (whole_has_all w x p.0, p.1))))
    (subst (λ (m : Network). IsLeastList w (InNetworkAlone w m a) blocks) e h)
