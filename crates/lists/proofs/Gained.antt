-- What a network or a range adds to the addresses.
use Rattle.lists.proofs.Words.{◌≡◌, ◌↔◌, ◌⊎◌, inl, inr, ⊎_elim, ℕ, ◌^◌, ◌<◌, List, [], ◌∷◌, ◌++◌, sym, subst, Result, Ok, Err, OnOk, is_err, IpAddr, V4, V6, Network, Member, InUnion, FromTo, in_union_push, range_is_shortest, union_append, Entry, ReadLists, HasAddress, Names, TakesEntry, AddsBlocks, AddsEntry, IsGoodEntry}
use Rattle.ipnetwork.specs.declared.ip_network.IpNetwork.TheVariants as networks
use Rattle.lists.specs.declared.entry.Entry.TheVariants as entries

gains_network : (w : ℕ) (before after : List Network) (n : Network) → after ≡ before ++ n ∷ [] → (x : ℕ)
    → InUnion w after x ↔ (InUnion w before x ⊎ Member w n x)
gains_network w before after n e x = subst (λ (l : List Network). InUnion w l x ↔ (InUnion w before x ⊎ Member w n x))
    (sym e) (in_union_push w before n x)

gains_blocks : (w first last : ℕ) (before after : List Network) → last < 2 ^ w → AddsBlocks w first last before after
    → (x : ℕ) → InUnion w after x ↔ (InUnion w before x ⊎ FromTo first last x)
gains_blocks w first last before after fits h x =
    let u = union_append w before h.0 x in
    let m = (range_is_shortest w first last h.0 fits h.1).addresses x in
    subst (λ (l : List Network). InUnion w l x ↔ (InUnion w before x ⊎ FromTo first last x)) (sym h.2) (
      (λ c. ⊎_elim (λ (d : InUnion w before x). inl d) (λ (d : InUnion w h.0 x). inr (m.0 d)) (u.0 c)),
      (λ o. u.1 (⊎_elim (λ (d : InUnion w before x). inl d) (λ (d : FromTo first last x). inr (m.1 d)) o)),
    )

-- where nothing is added
gains_nothing : (w : ℕ) (before after : List Network) → after ≡ before → (P : Type 0) → (P → ⊥) → (x : ℕ)
    → InUnion w after x ↔ (InUnion w before x ⊎ P)
gains_nothing w before after e P none x = (
  (λ c. inl (subst (λ (l : List Network). InUnion w l x) e c)),
  (λ o. ⊎_elim (λ (d : InUnion w before x). subst (λ (l : List Network). InUnion w l x) (sym e) d)
      (λ (d : P). absurd (none d)) o),
)

pub gains_entry : (before after : ReadLists) (entry : Entry) → IsGoodEntry entry
    → AddsEntry before.v4 before.v6 entry after.v4 after.v6 → (a : IpAddr)
    → HasAddress after a ↔ (HasAddress before a ⊎ Names entry a)
gains_entry before after (entries.Network (networks.V4 n)) good h (V4 a) = gains_network 32 before.v4 after.v4 n h.0 a
gains_entry before after (entries.Network (networks.V4 n)) good h (V6 a) =
    gains_nothing 128 before.v6 after.v6 h.1 ⊥ (λ x. x) a
gains_entry before after (entries.Network (networks.V6 n)) good h (V4 a) =
    gains_nothing 32 before.v4 after.v4 h.1 ⊥ (λ x. x) a
gains_entry before after (entries.Network (networks.V6 n)) good h (V6 a) = gains_network 128 before.v6 after.v6 n h.0 a
gains_entry before after (entries.Range (V4 first) (V4 last)) good h (V4 a) =
    gains_blocks 32 first last before.v4 after.v4 h.2 h.0 a
gains_entry before after (entries.Range (V4 first) (V4 last)) good h (V6 a) =
    gains_nothing 128 before.v6 after.v6 h.1 (⊥ × ⊥) (λ x. x.0) a
gains_entry before after (entries.Range (V4 first) (V6 last)) good h a = absurd good
gains_entry before after (entries.Range (V6 first) (V4 last)) good h a = absurd good
gains_entry before after (entries.Range (V6 first) (V6 last)) good h (V4 a) =
    gains_nothing 32 before.v4 after.v4 h.1 (⊥ × ⊥) (λ x. x.0) a
gains_entry before after (entries.Range (V6 first) (V6 last)) good h (V6 a) =
    gains_blocks 128 first last before.v6 after.v6 h.2 h.0 a

-- what is known where the entry was pushed, or could not be
pub pushed : {A E : Type 0} (inside before after : ReadLists) (entry : Entry) (result : Result A E) → inside ≡ before
    → IsGoodEntry entry
    → OnOk result (AddsEntry inside.v4 inside.v6 entry after.v4 after.v6) → after.refused ≡ inside.refused
    → after.rules ≡ inside.rules → after.list ≡ inside.list
    → after.line ≡ inside.line → after.is_out_of_memory ≡ is_err result → TakesEntry before entry after
pushed inside before after entry (Ok done) e good h refused rules list line memory =
    subst (λ (b : ReadLists). TakesEntry b entry after) e
    (inl (record {
      networks = h;
      addresses = gains_entry inside after entry good h;
      rules = rules;
      refused = refused;
      list = list;
      line = line;
      memory = memory;
    }))
pushed inside before after entry (Err fault) e good h refused rules list line memory =
    subst (λ (b : ReadLists). TakesEntry b entry after) e (inr (record { refused = refused; memory = memory }))
