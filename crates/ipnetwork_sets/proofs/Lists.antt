-- A set's list of blocks: it has no two halves of a block, its tail is a set, and mapping keeps its networks.
use Rattle.ipnetwork_sets.proofs.Words.{◌≡◌, ◌↔◌, ℕ, false, true≢false, IsTrue, ◌-◌, ◌<◌, ◌≤◌, inl, sym, refl, ap, ◌∙◌, arith, ⊎_elim, List, [], ◌∷◌, length, get_or, map, cases_lt, get_or-map, Contains, Contains-get_or, Network, IsNetwork, IsCidrBlock, Member, high, block_at_network, parent, IsMaximalIn, InUnion, SameUnion, IsAggregate, AggregateHasUnion, AggregateIsApart, AreHalves, AreJoined, halves_join, joined_is_aggregate, least_of_same, IsAddressSet}

-- the network at an index of the list, as the contracts see it
pub read_pair : {X : Type 0} (pair : X → Network) (xs : List X) (i : ℕ) (x : X) → i < length xs → x ≡ get_or xs i x
    → pair x ≡ get_or (map pair xs) i (pair x)
read_pair pair xs i x l is = ap pair is ∙ sym (get_or-map pair xs i x (pair x) l)

-- the same for a list mapped to any values
pub read_as : {X Y : Type 0} (f : X → Y) (xs : List X) (i : ℕ) (x : X) → i < length xs → x ≡ get_or xs i x
    → f x ≡ get_or (map f xs) i (f x)
read_as f xs i x l is = ap f is ∙ sym (get_or-map f xs i x (f x) l)

pub no_items : {X : Type 0} (pair : X → Network) (xs : List X) → length xs ≡ 0 → map pair xs ≡ []
no_items pair [] e = refl
no_items pair (x ∷ xs) e = absurd (omega arith)

pub not_below : (a b : ℕ) → (a ≤ b → ⊥) → b < a
not_below a b not = ⊎_elim (λ (l : b < a). l) (λ (le : a ≤ b). let r : b < a = absurd (not le) in r) (cases_lt b a)

-- the result for a false statement is `false`
pub refused : {P : Type 0} → ¬ P → IsTrue false ↔ P
refused none = ((λ t. absurd (true≢false (sym t))), (λ p. absurd (none p)))

-- an aggregate is a set
pub set_of_aggregate : (w : ℕ) (ns r : List Network) → AggregateHasUnion → IsAggregate w ns r → IsAddressSet w r
set_of_aggregate w ns r law h =
    let same : SameUnion w r ns = law w ns r h in
    least_of_same w (InUnion w ns) (InUnion w r) r (λ x. ((same x).1, (same x).0)) h

pub set_block : (w : ℕ) (bs : List Network) (b : Network) → IsAddressSet w bs → Contains bs b → IsCidrBlock w b
set_block w bs b h c = let m : IsMaximalIn w (InUnion w bs) b = (h.maximal b).0 c in
    record { network = m.network; block = m.block }

-- the blocks of a set are joined as far as possible
pub set_is_joined : (w : ℕ) (bs : List Network) → AggregateIsApart → IsAddressSet w bs → AreJoined w bs
set_is_joined w bs law h = record {
  blocks = λ k d l. set_block w bs (get_or bs k d) h (Contains-get_or bs k d l);
  pairs = λ i j d l m.
      let a : Network = get_or bs i d in
      let b : Network = get_or bs j d in
      let ca : Contains bs a = Contains-get_or bs i d (omega arith) in
      let cb : Contains bs b = Contains-get_or bs j d m in
      let ends : high w a < b.address = law w bs bs h i j d l m in
      (ends, λ s. no_halves w bs a b h ca cb ends s);
}
  where
    no_halves : (w : ℕ) (bs : List Network) (a b : Network) → IsAddressSet w bs → Contains bs a → Contains bs b
        → high w a < b.address → AreHalves w a b → ⊥
    no_halves w bs a b h ca cb ends s =
        let m : IsMaximalIn w (InUnion w bs) a = (h.maximal a).0 ca in
        let d : Network = parent w a in
        let ba : IsCidrBlock w a = set_block w bs a h ca in
        let pos = s.1 in
        let fits = ba.network.prefix_fits in
        let dn : IsNetwork w d = (block_at_network w a.address (a.prefix - 1) ba.network.address_fits
        (omega arith)).network in
        let whole = (halves_join w a b ba (set_block w bs b h cb) ends s).1 in
        m.maximal d dn (omega arith) (λ x k. (whole x).1 (inl k))
        (λ x k. ⊎_elim (λ (ka : Member w a x). (a, ca, ka)) (λ (kb : Member w b x). (b, cb, kb)) ((whole x).0 k))

-- blocks that are joined as far as possible are those of a set
pub joined_is_set : (w : ℕ) (bs : List Network) → AreJoined w bs → IsAddressSet w bs
joined_is_set w bs h = joined_is_aggregate w bs bs h (λ x. ((λ c. c), (λ c. c)))
