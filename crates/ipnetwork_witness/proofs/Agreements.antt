-- When the results of two readers agree.
use Rattle.ipnetwork_witness.proofs.Words.{◌≡◌, ◌↔◌, ℕ, ◌^◌, ◌<◌, Bool, List, bytes_eq, sym, ◌∙◌, subst, bytes_eq-Decides, IsTrue, Result, Ok, Err, Ipv4Addr, Ipv6Addr, ipv4_octets, ipv6_segments, Parses, octets_of, segments_of, Reads, Agree, SameV4, SameV6}
use Rattle.ipnetwork_witness.proofs.SameAddresses.{octets_are, same_octets, segments_are, same_segments}

-- both readers return what their grammars say, and the grammars have the same texts
module _ {A B E F : Type 0} (Names : List ℕ → A → Type 0) (Spells : List ℕ → B → Type 0) (Same : A → B → Type 0)
    (names_one : (text : List ℕ) (a b : A) → Names text a → Names text b → a ≡ b)
    (from_ours : (text : List ℕ) (ours : A) → Names text ours → (theirs : B) × Same ours theirs × Spells text theirs)
    (from_theirs : (text : List ℕ) (theirs : B) → Spells text theirs → (ours : A) × Same ours theirs
    × Names text ours) where
  pub readers_agree : (error : E) (text : List ℕ) (ours : Result A E) (theirs : Result B F)
      → Reads Names error text ours → Parses Spells text theirs → Agree Same ours theirs
  readers_agree error text (Ok a) (Ok b) read parsed =
      let (n, same, named) = from_theirs text b parsed in
      subst (λ m. Same m b) (names_one text n a named read) same
  readers_agree error text (Ok a) (Err other) read parsed =
      let (b, same, spelled) = from_ours text a read in
      absurd (parsed b spelled)
  readers_agree error text (Err e) (Ok b) read parsed =
      let (n, same, named) = from_theirs text b parsed in
      absurd (read.1 n named)
  readers_agree error text (Err e) (Err other) read parsed = tt

-- ---- two addresses are the same if and only if their octets or groups are equal

pub octets_decide : (answer : Bool) (ours : ℕ) (theirs : Ipv4Addr) (xs ys : List ℕ) → ours < 2 ^ 32
    → answer ≡ bytes_eq xs ys → xs ≡ octets_of ours → ys ≡ ipv4_octets theirs → IsTrue answer ↔ SameV4 ours theirs
octets_decide answer ours theirs xs ys fits compared is_ours is_theirs = (
  λ h. (fits, same_octets ours theirs (sym is_theirs ∙ sym ((bytes_eq-Decides xs ys).0 (sym compared ∙ h)) ∙ is_ours)),
  λ h. compared ∙ (bytes_eq-Decides xs ys).1 (is_ours ∙ sym (octets_are ours theirs h.1) ∙ sym is_theirs),
)

pub segments_decide : (answer : Bool) (ours : ℕ) (theirs : Ipv6Addr) (xs ys : List ℕ) → ours < 2 ^ 128
    → answer ≡ bytes_eq xs ys → xs ≡ segments_of ours → ys ≡ ipv6_segments theirs → IsTrue answer ↔ SameV6 ours theirs
segments_decide answer ours theirs xs ys fits compared is_ours is_theirs = (
  λ h.
      (fits, same_segments ours theirs (sym is_theirs ∙ sym ((bytes_eq-Decides xs ys).0 (sym compared ∙ h)) ∙ is_ours)),
  λ h. compared ∙ (bytes_eq-Decides xs ys).1 (is_ours ∙ sym (segments_are ours theirs h.1) ∙ sym is_theirs),
)
