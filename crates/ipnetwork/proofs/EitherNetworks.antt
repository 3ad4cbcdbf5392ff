-- The texts of networks of either family.
use Rattle.ipnetwork.proofs.Words.{◌≡◌, ◌↔◌, ℕ, List, Option, None, Some, Result, Ok, Err, refl, sym, ap, subst, ◌∙◌, nat_le, cond_both, NamesV4, v4_of, NamesV6, v6_of, Network, slashes, before_slash, suffix_of, prefix_given, network_from, network_of, NamesV4Network, ReadsV4Network, v4_network_of, v4_length_of, NamesV6Network, ReadsV6Network, v6_network_of, v6_length_of, CidrFault, Format, IpNetwork, V4, V6, NamesIpNetwork, ReadsIpNetwork, ip_network_text, either_network_of, ip_network_of}
use Rattle.ipnetwork.proofs.Families.{names_none}

-- the address of a computed network comes from the text before the slash
from_address : (address prefix : Option ℕ) (n : Network) → network_from address prefix ≡ Ok n → address ≡ Some n.address
from_address None prefix n e = cc
from_address (Some a) None n e = cc
from_address (Some a) (Some p) n e =
    let same : record { address = a; prefix = p } ≡ n = cc in
    ap (λ (m : Network). Some m.address) same

address_before_slash : (w : ℕ) (address_of length_of : List ℕ → Option ℕ) (text : List ℕ) (n : Network)
    → network_of w address_of length_of text ≡ Ok n → address_of (before_slash text) ≡ Some n.address
address_before_slash w address_of length_of text n =
    cond_both (nat_le 2 (slashes text)) (Err Format)
    (network_from (address_of (before_slash text)) (prefix_given w length_of (suffix_of text)))
    (λ r. r ≡ Ok n → address_of (before_slash text) ≡ Some n.address)
    (λ two e. cc)
    (λ few e. from_address _ _ n e)

-- what the laws of the families say about their texts
pub record FamilyTexts : Type 0 where
  pub v4_address : (text : List ℕ) (address : ℕ) → NamesV4 text address ↔ (v4_of text ≡ Some address)
  pub v6_address : (text : List ℕ) (address : ℕ) → NamesV6 text address ↔ (v6_of text ≡ Some address)
  pub apart : (text : List ℕ) (a b : ℕ) → NamesV4 text a → NamesV6 text b → ⊥
  pub v4_reading : (text : List ℕ) (result : Result Network CidrFault)
      → ReadsV4Network text result ↔ (result ≡ v4_network_of text)
  pub v6_reading : (text : List ℕ) (result : Result Network CidrFault)
      → ReadsV6Network text result ↔ (result ≡ v6_network_of text)

-- no text names networks of both families, since the text before the slash names no address of both
not_both : FamilyTexts → (text : List ℕ) (a b : Network) → NamesV4Network text a → NamesV6Network text b → ⊥
not_both f text a b h k =
    let front = before_slash text in
    let v4 = address_before_slash 32 v4_of v4_length_of text a (sym ((f.v4_reading text (Ok a)).0 h)) in
    let v6 = address_before_slash 128 v6_of v6_length_of text b (sym ((f.v6_reading text (Ok b)).0 k)) in
    f.apart front a.address b.address ((f.v4_address front a.address).1 v4) ((f.v6_address front b.address).1 v6)

same_v4 : FamilyTexts → (text : List ℕ) (a b : Network) → NamesV4Network text a → NamesV4Network text b → a ≡ b
same_v4 f text a b h k = let e = (f.v4_reading text (Ok a)).0 h in let g = (f.v4_reading text (Ok b)).0 k in cc

same_v6 : FamilyTexts → (text : List ℕ) (a b : Network) → NamesV6Network text a → NamesV6Network text b → a ≡ b
same_v6 f text a b h k = let e = (f.v6_reading text (Ok a)).0 h in let g = (f.v6_reading text (Ok b)).0 k in cc

pub names_one : FamilyTexts → (text : List ℕ) (a b : IpNetwork) → NamesIpNetwork text a → NamesIpNetwork text b → a ≡ b
names_one f text (V4 a) (V4 b) h k = ap V4 (same_v4 f text a b h k)
names_one f text (V4 a) (V6 b) h k = absurd (not_both f text a b h k)
names_one f text (V6 a) (V4 b) h k = absurd (not_both f text b a k h)
names_one f text (V6 a) (V6 b) h k = ap V6 (same_v6 f text a b h k)

-- the computed result is a result of reading
read_either : (text : List ℕ) (v4 v6 : Result Network CidrFault) → ReadsV4Network text v4 → ReadsV6Network text v6
    → ReadsIpNetwork text (either_network_of v4 v6)
read_either text (Ok n) v6 h k = h
read_either text (Err fault) (Ok n) h k = k
read_either text (Err fault) (Err other) h k = (refl, names_none text h.1 k.1)

-- there is only one result of reading
one_answer : (text : List ℕ) → ((a b : IpNetwork) → NamesIpNetwork text a → NamesIpNetwork text b → a ≡ b)
    → (r s : Result IpNetwork CidrFault) → ReadsIpNetwork text r → ReadsIpNetwork text s → r ≡ s
one_answer text one (Ok a) (Ok b) h k = ap Ok (one a b h k)
one_answer text one (Ok a) (Err d) h k = absurd (k.1 a h)
one_answer text one (Err c) (Ok b) h k = absurd (h.1 b k)
one_answer text one (Err c) (Err d) h k = ap Err (h.0 ∙ sym k.0)

pub reading_is_computed : ((text : List ℕ) (a b : IpNetwork) → NamesIpNetwork text a → NamesIpNetwork text b → a ≡ b)
    → ((text : List ℕ) (result : Result Network CidrFault) → ReadsV4Network text result ↔ (result ≡ v4_network_of text))
    → ((text : List ℕ) (result : Result Network CidrFault) → ReadsV6Network text result ↔ (result ≡ v6_network_of text))
    → (text : List ℕ) (result : Result IpNetwork CidrFault) → ReadsIpNetwork text result ↔ (result ≡ ip_network_of text)
reading_is_computed one v4 v6 text result =
    let computed = read_either text (v4_network_of text) (v6_network_of text) ((v4 text (v4_network_of text)).1 refl)
    ((v6 text (v6_network_of text)).1 refl) in (
      λ h. one_answer text (one text) result (ip_network_of text) h computed,
      λ e. subst (ReadsIpNetwork text) (sym e) computed,
    )

pub reads_back : ((text : List ℕ) (a b : IpNetwork) → NamesIpNetwork text a → NamesIpNetwork text b → a ≡ b)
    → (text : List ℕ) (n : IpNetwork) (result : Result IpNetwork CidrFault) → NamesIpNetwork text n
    → ReadsIpNetwork text result ↔ (result ≡ Ok n)
reads_back one text n result named =
    (λ h. one_answer text (one text) result (Ok n) h named, λ e. subst (ReadsIpNetwork text) (sym e) named)

pub one_to_one : ((text : List ℕ) (a b : IpNetwork) → NamesIpNetwork text a → NamesIpNetwork text b → a ≡ b)
    → (a b : IpNetwork) → NamesIpNetwork (ip_network_text a) a → NamesIpNetwork (ip_network_text b) b
    → (a ≡ b) ↔ (ip_network_text a ≡ ip_network_text b)
one_to_one one a b h k = (
  λ e. ap ip_network_text e,
  λ e.
      one (ip_network_text a) a b h (subst (λ (t : List ℕ). NamesIpNetwork t b) (sym e) k),
)
