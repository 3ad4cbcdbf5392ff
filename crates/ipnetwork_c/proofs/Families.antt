-- The family that a struct states, and membership in the network that it represents.
use Rattle.ipnetwork_c.proofs.Words.{◌≡◌, ◌↔◌, Bool, IsTrue, refl, subst, Some, IpAddr, IpMember, IpNetwork, V4, V6, IpInC, v4_in, v6_in, ip_in}

pub v4_told : (held : IpInC) → held.family ≡ 4 → ip_in held ≡ Some (V4 (v4_in held.v4))
v4_told held is = rw is refl

pub v6_told : (held : IpInC) → held.family ≡ 6 → ip_in held ≡ Some (V6 (v6_in held.v6))
v6_told held is = rw is refl

pub member_of : (b : Bool) (n m : IpNetwork) (a : IpAddr) → n ≡ m → (IsTrue b ↔ IpMember n a)
    → (IsTrue b ↔ IpMember m a)
member_of b n m a is member = subst (λ x. IsTrue b ↔ IpMember x a) is member
