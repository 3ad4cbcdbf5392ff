-- What a reader returns, from the computed address.
use Rattle.ipnetwork_addr.proofs.Words.{◌≡◌, ◌↔◌, ℕ, List, Option, None, Some, refl, sym, ap, ◌∙◌, subst, Ok, Err, none-some, same_Some, IpAddr, V4, V6, Reads, answer_from, NamesV4, v4_of, NamesV6, v6_of, NamesIp, either_of, ip_of}
use Rattle.std.specs.Prelude.{Result}
use Rattle.ipnetwork_addr.proofs.ComputedV4.{v4_of_sound, v4_of_complete}
use Rattle.ipnetwork_addr.proofs.ComputedV6.{v6_of_sound, v6_of_complete}
use Rattle.ipnetwork_addr.proofs.EitherFamily.{not_both}

module _ {A E : Type 0} (Names : List ℕ → A → Type 0) (of : List ℕ → Option A) (computed : (text : List ℕ) (value : A)
    → Names text value ↔ (of text ≡ Some value)) (error : E) (text : List ℕ) where
  answers : (found : Option A) → of text ≡ found → Reads Names error text (answer_from error found)
  answers None e = (refl, λ value h. none-some value (sym e ∙ (computed text value).0 h))
  answers (Some value) e = (computed text value).1 e

  only : (result : Result A E) (found : Option A) → of text ≡ found → Reads Names error text result
      → result ≡ answer_from error found
  only (Ok value) found e h = ap (answer_from error) (sym ((computed text value).0 h) ∙ e)
  only (Err other) None e h = ap Err h.0
  only (Err other) (Some value) e h = absurd (h.1 value ((computed text value).1 e))

  pub reading_is_computed : (result : Result A E) → Reads Names error text result
      ↔ (result ≡ answer_from error (of text))
  reading_is_computed result =
      (only result (of text) refl, λ e. subst (Reads Names error text) (sym e) (answers (of text) refl))

pub v4_computed : (text : List ℕ) (address : ℕ) → NamesV4 text address ↔ (v4_of text ≡ Some address)
v4_computed text address = (v4_of_complete text address, v4_of_sound text address)

pub v6_computed : (text : List ℕ) (address : ℕ) → NamesV6 text address ↔ (v6_of text ≡ Some address)
v6_computed text address = (v6_of_complete text address, v6_of_sound text address)

-- ---- either family

no_v4 : (text : List ℕ) (address : ℕ) (found : Option ℕ) → v4_of text ≡ found → NamesV6 text address → found ≡ None
no_v4 text address None e h = refl
no_v4 text address (Some other) e h = absurd (not_both text other address ((v4_computed text other).1 e) h)

ip_complete : (text : List ℕ) (address : IpAddr) → NamesIp text address → ip_of text ≡ Some address
ip_complete text (V4 address) h = ap (λ found. either_of found (v6_of text)) ((v4_computed text address).0 h)
ip_complete text (V6 address) h =
    ap (λ found. either_of found (v6_of text)) (no_v4 text address (v4_of text) refl h)
    ∙ ap (either_of None) ((v6_computed text address).0 h)

ip_sound_from : (text : List ℕ) (address : IpAddr) (four six : Option ℕ) → v4_of text ≡ four → v6_of text ≡ six
    → either_of four six ≡ Some address → NamesIp text address
ip_sound_from text address (Some n) six e f h =
    subst (NamesIp text) (same_Some (V4 n) address h) ((v4_computed text n).1 e)
ip_sound_from text address None (Some n) e f h =
    subst (NamesIp text) (same_Some (V6 n) address h) ((v6_computed text n).1 f)
ip_sound_from text address None None e f h = absurd (none-some address h)

pub ip_computed : (text : List ℕ) (address : IpAddr) → NamesIp text address ↔ (ip_of text ≡ Some address)
ip_computed text address = (ip_complete text address, ip_sound_from text address (v4_of text) (v6_of text) refl refl)
