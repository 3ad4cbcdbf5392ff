-- The smallest block that contains some networks.
use Rattle.ipnetwork_blocks.proofs.Words.{◌≡◌, ◌==◌, false, ℕ, suc, ◌+◌, ◌/◌, ◌<◌, ◌≤◌, min, List, [], ◌∷◌, ◌++◌, length, take, get_or, map, sym, ap, subst, ◌∙◌, arith, ⊎_elim, take-suc, take-length, true≢false, length-map, get_or-map, Contains, SharesBits, Network, IsNetwork, Member, Subnet, low, block_size, block_at, block_of, subnet_from, subnet_prefix, has_ends, coarser_size, block_begins, block_same_set, block_at_network, block_at_subnet, IsSpanning, Contains-push_cases, Contains-append_left, Contains-append_right}
use Rattle.ipnetwork_blocks.proofs.LeastLists.{contains_cons, contains_head, contains_nil, contains_tail}

subnet_after : (w : ℕ) (a b c : Network) → Subnet w a b → Subnet w b c → Subnet w a c
subnet_after w a b c first second x m = second x (first x m)

alone : {X : Type 0} (a b : X) → Contains (a ∷ []) b → a ≡ b
alone a b c = ⊎_elim (λ (e : a ≡ b). e) (λ (none : Contains [] b). let r : a ≡ b = absurd (contains_nil b none) in r)
    (contains_cons a [] b c)

-- ---- one network, one more, and all

pub spans_one : (w : ℕ) (n : Network) → IsNetwork w (block_of w n) → IsSpanning w (n ∷ []) (block_of w n)
spans_one w n h = record {
  block = record { network = h; block = block_begins w n };
  around = λ m c. subst (λ (k : Network). Subnet w k (block_of w n)) (alone n m c) (λ x i. (block_same_set w n x).1 i);
  smallest = λ b bn lie x i. lie n (contains_head n []) x ((block_same_set w n x).0 i);
}

pub spans_more : (w : ℕ) (networks : List Network) (n b wider : Network) → IsSpanning w networks b
    → IsSpanning w (b ∷ n ∷ []) wider → IsSpanning w (networks ++ n ∷ []) wider
spans_more w networks n b wider h k = record {
  block = k.block;
  around = λ m c.
      let Goal : Type 0 = Subnet w m wider in
      ⊎_elim
      (λ (i : Contains networks m).
      let r : Goal = subnet_after w m b wider (h.around m i) (k.around b (contains_head b (n ∷ []))) in r)
      (λ (e : n ≡ m). let r : Goal = subst (λ (l : Network). Subnet w l wider) e
      (k.around n (contains_tail b (n ∷ []) n (contains_head n []))) in r)
      (Contains-push_cases networks n m c);
  smallest = λ c cn lie.
      k.smallest c cn (λ m i.
      let Goal : Type 0 = Subnet w m c in
      ⊎_elim
      (λ (e : b ≡ m). let r : Goal = subst (λ (l : Network). Subnet w l c) e
      (h.smallest c cn (λ l j. lie l (Contains-append_left networks (n ∷ []) l j))) in r)
      (λ (j : Contains (n ∷ []) m). let r : Goal = lie m (Contains-append_right networks (n ∷ []) m j) in r)
      (contains_cons b (n ∷ []) m i));
}

-- a network that occurs twice
pub spans_once : (w : ℕ) (networks : List Network) (n b : Network) → Contains networks n → IsSpanning w (n ∷ networks) b
    → IsSpanning w networks b
spans_once w networks n b twice h = record {
  block = h.block;
  around = λ m c. h.around m (contains_tail n networks m c);
  smallest = λ c cn lie. h.smallest c cn (λ m i.
      let Goal : Type 0 = Subnet w m c in
      ⊎_elim
      (λ (e : n ≡ m). let r : Goal = subst (λ (l : Network). Subnet w l c) e (lie n twice) in r)
      (λ (j : Contains networks m). let r : Goal = lie m j in r)
      (contains_cons n networks m i));
}

-- ---- networks as addresses and prefix lengths

pub not_empty : {X : Type 0} (xs : List X) → (length xs == 0) ≡ false → 0 < length xs
not_empty [] none = absurd (true≢false none)
not_empty (x ∷ xs) none = omega arith

pub item_of : {X : Type 0} (pair : X → Network) (xs : List X) (i : ℕ) (x : X) → i < length xs → x ≡ get_or xs i x
    → Contains (map pair xs) (pair x)
item_of pair xs i x l is =
    (i, omega (arith, l, length-map xs pair), get_or-map pair xs i x (pair x) l ∙ ap pair (sym is))

pub one_more_taken : {X : Type 0} (pair : X → Network) (xs : List X) (i : ℕ) (x : X) → i < length xs → x ≡ get_or xs i x
    → take (i + 1) (map pair xs) ≡ take i (map pair xs) ++ pair x ∷ []
one_more_taken pair xs i x l is =
    let next : i + 1 ≡ suc i = omega arith in
    ap (λ k. take k (map pair xs)) next ∙ take-suc (map pair xs) i (pair x) (omega (arith, l, length-map xs pair))
    ∙ ap (λ y. take i (map pair xs) ++ y ∷ []) (get_or-map pair xs i x (pair x) l ∙ ap pair (sym is))

pub all_taken : {X : Type 0} (pair : X → Network) (xs : List X) (i : ℕ) → i ≤ length xs → length xs ≤ i
    → take i (map pair xs) ≡ map pair xs
all_taken pair xs i most least =
    let whole : i ≡ length (map pair xs) = omega (arith, most, least, length-map xs pair) in
    ap (λ k. take k (map pair xs)) whole ∙ take-length (map pair xs)

-- ---- two networks

lies : (w x p : ℕ) (n : Network) → IsNetwork w n → p ≤ n.prefix → n.address / block_size w p ≡ x / block_size w p
    → Subnet w n (block_at w x p)
lies w x p n h shorter agree = subnet_from w n (block_at w x p) h shorter
    ((block_same_set w (record { address = x; prefix = p }) n.address).1 (h.address_fits, agree))

pub spans_both : (w shared p : ℕ) (a b : Network) → IsNetwork w a → IsNetwork w b
    → SharesBits w (low w a) (low w b) shared → p ≡ min (min shared a.prefix) b.prefix
    → IsSpanning w (a ∷ b ∷ []) (block_at w (low w a) p)
spans_both w shared p a b an bn h is =
    let x : ℕ = low w a in
    let y : ℕ = low w b in
    let p_a : p ≤ a.prefix = omega (arith, is) in
    let p_b : p ≤ b.prefix = omega (arith, is) in
    let p_s : p ≤ shared = omega (arith, is) in
    let within : p ≤ w = omega (arith, p_a, an.prefix_fits) in
    let low_a : Member w a x = (has_ends w a an).low_is_member in
    let low_b : Member w b y = (has_ends w b bn).low_is_member in
    let of_a : a.address / block_size w p ≡ x / block_size w p =
    sym (coarser_size w p a.prefix x a.address p_a an.prefix_fits low_a.1) in
    let of_b : b.address / block_size w p ≡ y / block_size w p =
    sym (coarser_size w p b.prefix y b.address p_b bn.prefix_fits low_b.1) in
    let agree : x / block_size w p ≡ y / block_size w p = coarser_size w p shared x y p_s h.within h.agree in
    record {
      block = block_at_network w x p low_a.0 within;
      around = λ m c.
          let Goal : Type 0 = Subnet w m (block_at w x p) in
          ⊎_elim
          (λ (e : a ≡ m). let r : Goal =
          subst (λ (l : Network). Subnet w l (block_at w x p)) e (lies w x p a an p_a of_a) in r)
          (λ (i : Contains (b ∷ []) m). let r : Goal = subst (λ (l : Network). Subnet w l (block_at w x p))
          (alone b m i) (lies w x p b bn p_b (of_b ∙ sym agree)) in r)
          (contains_cons a (b ∷ []) m c);
      smallest = λ c cn lie.
          let in_a : Subnet w a c = lie a (contains_head a (b ∷ [])) in
          let in_b : Subnet w b c = lie b (contains_tail a (b ∷ []) b (contains_head b [])) in
          let both : c.prefix ≤ shared = h.greatest c.prefix cn.prefix_fits ((in_a x low_a).1 ∙ sym (in_b y low_b).1) in
          block_at_subnet w x p c (omega
          (arith, is, both, subnet_prefix w a c an cn in_a, subnet_prefix w b c bn cn in_b)) within (in_a x low_a);
    }
