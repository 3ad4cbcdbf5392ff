-- Texts of an address of either family.
use Rattle.ipnetwork_addr.proofs.Words.{◌≡◌, ◌↔◌, ℕ, List, ◌∷◌, length, Option, None, Some, sym, ap, subst, inl, inr, arith, lit≤, none-some, dot, colon, IpAddr, V4, V6, NamesV4, NamesV6, canonical_v6, NamesIp, canonical_ip, FitsIp, NoHex, IsTextPart, IsLeft}
use Rattle.ipnetwork_addr.proofs.Ipv4Lemmas.{v4_unique, canonical_v4_names}
use Rattle.ipnetwork_addr.proofs.Parts.{v4_begins, IsLast, IsDot, IsGap, IsNext, kind_of, no_hex_no_group, nil_cons, other_first}
use Rattle.ipnetwork_addr.proofs.Ipv6Names.{Shape, Full, Gapped, shape_of, v6_unique}
use Rattle.ipnetwork_addr.proofs.Ipv6Printed.{canonical_v6_names, canonical_v6_is}

-- a text part that is an IPv4 text has two groups and reaches the end of the text
alone : (groups text : List ℕ) (end : Option (List ℕ)) (address : ℕ) → NamesV4 text address → IsTextPart groups text end
    → (length groups ≡ 2) × (end ≡ None)
alone groups text end address named part =
    let b = v4_begins text address named in
    elim (kind_of groups text end b.group (dot ∷ b.after) b.begins part) [
      | IsLast e _ _ ↦ absurd (nil_cons dot b.after (sym e))
      | IsDot _ _ _ _ e f ↦ (ap length e, f)
      | IsGap next e _ _ ↦ absurd (other_first dot colon b.after (colon ∷ next) e (omega arith))
      | IsNext next _ e _ _ ↦ absurd (other_first dot colon b.after next e (omega arith))
    ]

pub not_both : (text : List ℕ) (a b : ℕ) → NamesV4 text a → NamesV6 text b → ⊥
not_both text a b h k = go (shape_of text b k)
  where
    left : (groups next : List ℕ) → IsLeft groups text (Some next) → ⊥
    left groups next (inl part) = none-some next (sym (alone groups text (Some next) a h part).1)
    left groups next (inr none) =
        let b = v4_begins text a h in
        no_hex_no_group text (subst NoHex (sym none.spelled) (lit≤ tt)) b.group (dot ∷ b.after) b.begins

    go : Shape text b → ⊥
    go (Full groups part eight value) = omega (arith, (alone groups text None a h part).0, eight)
    go (Gapped l r next is_left is_right room value) = left l next is_left

pub ip_unique : (text : List ℕ) (a b : IpAddr) → NamesIp text a → NamesIp text b → a ≡ b
ip_unique text (V4 a) (V4 b) h k = ap V4 (v4_unique text a b h k)
ip_unique text (V4 a) (V6 b) h k = absurd (not_both text a b h k)
ip_unique text (V6 a) (V4 b) h k = absurd (not_both text b a k h)
ip_unique text (V6 a) (V6 b) h k = ap V6 (v6_unique text a b h k)

pub canonical_ip_names : (address : IpAddr) → FitsIp address → NamesIp (canonical_ip address) address
canonical_ip_names (V4 address) fits = canonical_v4_names address fits
canonical_ip_names (V6 address) fits = canonical_v6_names (canonical_v6 address) address fits (canonical_v6_is address)

pub ip_one_to_one : (a b : IpAddr) → FitsIp a → FitsIp b → (a ≡ b) ↔ (canonical_ip a ≡ canonical_ip b)
ip_one_to_one a b fits_a fits_b = (
  λ e. ap canonical_ip e,
  λ e. ip_unique (canonical_ip a) a b (canonical_ip_names a fits_a)
      (subst (λ (t : List ℕ). NamesIp t b) (sym e) (canonical_ip_names b fits_b)),
)
