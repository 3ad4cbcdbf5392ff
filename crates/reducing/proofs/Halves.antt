-- Where two blocks lie in the block that they are joined into, and that no third block lies in it for the pair with the
-- fewest others.
use Rattle.reducing.proofs.Words.{◌≡◌, ℕ, suc, ◌+◌, ◌-◌, ◌*◌, ◌/◌, ◌<◌, ◌≤◌, ◌∷◌, [], refl, sym, ap, subst, ◌∙◌, arith, ⊎_elim, pow-le-pow_right, cases_lt, cases_eq, Contains, Network, IsCidrBlock, Member, Subnet, block_size, block_at, low, high, size_pos, div_within, within_block, within_member, has_ends, subnet_from, subnet_prefix, block_same_set, coarser_size, block_at_network, IsSpanning, size_half, contains_cons, contains_nil, contains_head, contains_tail, joined, others}
use Rattle.reducing.proofs.Shared.{joined_spans}

-- the address after the last one
abbrev pub end_of : ℕ → Network → ℕ
end_of w n = n.address + block_size w n.prefix

pub inside : (w : ℕ) (n m : Network) → IsCidrBlock w n → IsCidrBlock w m → Subnet w n m
    → (m.address ≤ n.address) × (end_of w n ≤ end_of w m)
inside w n m hn hm sub =
    let ends = has_ends w n hn.network in
    let from = within_member w m (low w n) (sub (low w n) ends.low_is_member) in
    let to = within_member w m (high w n) (sub (high w n) ends.high_is_member) in
    (omega (arith, from.0, hn.block, hm.block), omega (arith, to.1, hn.block, hm.block, size_pos w n.prefix))

-- two blocks in one block of prefix length p are joined into one that is no shorter
joined_within : (w p : ℕ) (c d t : Network) → IsCidrBlock w c → IsCidrBlock w d → IsSpanning w (c ∷ d ∷ []) t → p ≤ w
    → p ≤ c.prefix → p ≤ d.prefix
    → c.address / block_size w p ≡ d.address / block_size w p → p ≤ t.prefix
joined_within w p c d t hc hd spans fits pc pd same =
    let x : Network = block_at w c.address p in
    let hx = block_at_network w c.address p hc.network.address_fits fits in
    let in_c : Subnet w c x = subnet_from w c x hc.network pc
    ((block_same_set w (record { address = c.address; prefix = p }) c.address).1 (hc.network.address_fits, refl)) in
    let in_d : Subnet w d x = subnet_from w d x hd.network pd ((block_same_set w
    (record { address = c.address; prefix = p }) d.address).1 (hd.network.address_fits, sym same)) in
    subnet_prefix w t x spans.block.network hx.network (spans.smallest x hx.network (λ m i.
    let Goal : Type 0 = Subnet w m x in
    ⊎_elim
    (λ (e : c ≡ m). let r : Goal = subst (λ (l : Network). Subnet w l x) e in_c in r)
    (λ (j : Contains (d ∷ []) m). let r : Goal = ⊎_elim
    (λ (e : d ≡ m). let s : Goal = subst (λ (l : Network). Subnet w l x) e in_d in s)
    (λ (none : Contains [] m). let s : Goal = absurd (contains_nil m none) in s)
    (contains_cons d [] m j) in r)
    (contains_cons c (d ∷ []) m i)))

-- a pair in order
pub record IsPair (w : ℕ) (a b t : Network) : Type 0 where
  pub first : IsCidrBlock w a
  pub second : IsCidrBlock w b
  pub order : end_of w a ≤ b.address
  pub spans : IsSpanning w (a ∷ b ∷ []) t

pub pair_inside : (w : ℕ) (a b t : Network) → IsPair w a b t → (t.address ≤ a.address) × (end_of w b ≤ end_of w t)
pair_inside w a b t h =
    let in_a = inside w a t h.first h.spans.block (h.spans.around a (contains_head a (b ∷ []))) in
    let in_b = inside w b t h.second h.spans.block (h.spans.around b (contains_tail a (b ∷ []) b (contains_head b [])))
    in
    (in_a.0, in_b.1)

-- each of the two lies in a half of their block
pub record AreInHalves (w : ℕ) (a b t : Network) : Type 0 where
  pub fits : suc t.prefix ≤ w
  pub first_is_longer : suc t.prefix ≤ a.prefix
  pub second_is_longer : suc t.prefix ≤ b.prefix
  pub size : block_size w t.prefix ≡ block_size w (suc t.prefix) + block_size w (suc t.prefix)
  pub first_half : a.address / block_size w (suc t.prefix) * block_size w (suc t.prefix) ≡ t.address
  pub second_half : b.address / block_size w (suc t.prefix) * block_size w (suc t.prefix) ≡ t.address + block_size w
      (suc t.prefix)

longer : (w : ℕ) (n t : Network) → IsCidrBlock w n → IsCidrBlock w t → Subnet w n t
    → block_size w n.prefix < block_size w t.prefix
    → suc t.prefix ≤ n.prefix
longer w n t hn ht sub less =
    let no_less = subnet_prefix w n t hn.network ht.network sub in
    let Goal : Type 0 = suc t.prefix ≤ n.prefix in
    ⊎_elim
    (λ (e : t.prefix ≡ n.prefix). let same : block_size w t.prefix ≡ block_size w n.prefix = ap (block_size w) e in
    let r : Goal = absurd (omega (arith, same, less)) in r)
    (λ (other : t.prefix ≡ n.prefix → ⊥). let r : Goal = omega (arith, no_less, other) in r)
    (cases_eq t.prefix n.prefix)

pub in_halves : (w : ℕ) (a b t : Network) → IsPair w a b t → AreInHalves w a b t
in_halves w a b t h =
    let sub_a = h.spans.around a (contains_head a (b ∷ [])) in
    let sub_b = h.spans.around b (contains_tail a (b ∷ []) b (contains_head b [])) in
    let in_a = inside w a t h.first h.spans.block sub_a in
    let in_b = inside w b t h.second h.spans.block sub_b in
    let some_a = size_pos w a.prefix in
    let some_b = size_pos w b.prefix in
    let order = h.order in
    let pa : suc t.prefix ≤ a.prefix = longer w a t h.first h.spans.block sub_a (omega (arith, in_a.0, in_b.1)) in
    let pb : suc t.prefix ≤ b.prefix = longer w b t h.second h.spans.block sub_b (omega (arith, in_a.0, in_b.1)) in
    let fits : suc t.prefix ≤ w = omega (arith, pa, h.first.network.prefix_fits) in
    let half : ℕ = block_size w (suc t.prefix) in
    let some : 0 < half = size_pos w (suc t.prefix) in
    let u : ℕ = t.address / block_size w t.prefix in
    let next : t.prefix + 1 ≡ suc t.prefix = omega arith in
    let size : block_size w t.prefix ≡ half + half = subst (λ (p : ℕ). block_size w t.prefix ≡ block_size w
    p + block_size w p) next (size_half w t.prefix (omega (arith, fits))) in
    let begins : t.address ≡ (u + u) * half = h.spans.block.block ∙ ap (λ z. u * z) size ∙ omega arith in
    let upper : (u + u + 1) * half ≡ t.address + half = omega (arith, begins) in
    let lower_of = λ (x : ℕ) (from : t.address ≤ x) (to : x < t.address + half).
    let r : x / half ≡ u + u = div_within (u + u) half x (omega (arith, begins)) (omega (arith, begins)) in r in
    let upper_of = λ (x : ℕ) (from : t.address + half ≤ x) (to : x < t.address + half + half).
    let r : x / half ≡ u + u + 1 = div_within (u + u + 1) half x (omega (arith, upper)) (omega (arith, upper)) in r in
    let apart : a.address / half ≡ b.address / half → ⊥ = λ same.
    let p = joined_within w (suc t.prefix) a b t h.first h.second h.spans fits pa pb same in omega (arith, p) in
    let Goal : Type 0 = AreInHalves w a b t in
    ⊎_elim
    (λ (low_b : b.address < t.address + half).
    let r : Goal = absurd (apart (lower_of a.address in_a.0 (omega (arith, low_b))
    ∙ sym (lower_of b.address (omega (arith, in_a.0)) low_b))) in r)
    (λ (high_b : t.address + half ≤ b.address).
    let at_b : b.address / half ≡ u + u + 1 = upper_of b.address high_b (omega (arith, in_b.1, size)) in
    let r : Goal = ⊎_elim
    (λ (low_a : a.address < t.address + half).
    let at_a : a.address / half ≡ u + u = lower_of a.address in_a.0 low_a in
    let s : Goal = record {
      fits = fits;
      first_is_longer = pa;
      second_is_longer = pb;
      size = size;
      first_half = ap (λ z. z * half) at_a ∙ sym begins;
      second_half = ap (λ z. z * half) at_b ∙ upper;
    } in s)
    (λ (high_a : t.address + half ≤ a.address).
    let s : Goal = absurd (apart (upper_of a.address high_a (omega (arith, in_b.1, size)) ∙ sym at_b)) in s)
    (cases_lt a.address (t.address + half)) in r)
    (cases_lt b.address (t.address + half))

-- ---- others

size_falls : (w p q : ℕ) → p ≤ q → block_size w q ≤ block_size w p
size_falls w p q h = pow-le-pow_right {n = 2} (omega arith) {i = w - q} {j = w - p} (omega arith)

pub others_add_up : (w : ℕ) (a b : Network) → IsPair w a b (joined w a b)
    → others w a b + block_size w a.prefix + block_size w b.prefix ≡ block_size w (joined w a b).prefix
unfolding others
others_add_up w a b h = omega (arith, h.order, pair_inside w a b (joined w a b) h)

pub is_pair : (w : ℕ) (a b : Network) → IsCidrBlock w a → IsCidrBlock w b → end_of w a ≤ b.address
    → IsPair w a b (joined w a b)
is_pair w a b ha hb order =
    record { first = ha; second = hb; order = order; spans = joined_spans w a b ha.network hb.network }

-- two blocks in one block of prefix length p have at most the rest of it as others
crowded : (w p : ℕ) (c d : Network) → IsPair w c d (joined w c d) → p ≤ w → p ≤ c.prefix → p ≤ d.prefix
    → c.address / block_size w p ≡ d.address / block_size w p
    → others w c d + block_size w c.prefix + block_size w d.prefix ≤ block_size w p
crowded w p c d h fits pc pd same =
    omega (
      arith,
      others_add_up w c d h,
      size_falls w p (joined w c d).prefix
          (joined_within w p c d (joined w c d) h.first h.second h.spans fits pc pd same),
    )

own_half : (s x : ℕ) → 0 < s → (x / s * s ≤ x) × (x < x / s * s + s)
own_half s x some = within_block s x x some refl

-- if a pair has no more others than its second block and the block after it, that block is not in the pair's block
pub none_behind : (w : ℕ) (a b q : Network) → IsPair w a b (joined w a b) → IsCidrBlock w q → end_of w b ≤ q.address
    → others w a b ≤ others w b q → end_of w (joined w a b) ≤ q.address
none_behind w a b q h hq order least =
    let t : Network = joined w a b in
    let Goal : Type 0 = end_of w t ≤ q.address in
    let k = in_halves w a b t h in
    let half : ℕ = block_size w (suc t.prefix) in
    let some : 0 < half = size_pos w (suc t.prefix) in
    let some_b = size_pos w b.prefix in
    let some_q = size_pos w q.prefix in
    let own = own_half half b.address some in
    ⊎_elim
    (λ (inner : q.address < end_of w t).
    let same : q.address / half ≡ b.address / half = div_within (b.address / half) half q.address
    (omega (arith, own.0, order)) (omega (arith, k.second_half, k.size, inner)) in
    let pq : suc t.prefix ≤ q.prefix = ⊎_elim
    (λ (wide : q.prefix < suc t.prefix).
    let agree = coarser_size w q.prefix (suc t.prefix) q.address b.address (omega (arith, wide)) k.fits same in
    let m : Member w q b.address = (h.second.network.address_fits, sym agree) in
    let r : suc t.prefix ≤ q.prefix = absurd (omega (arith, within_member w q b.address m, hq.block, order, some_b)) in
    r)
    (λ (ok : suc t.prefix ≤ q.prefix). ok)
    (cases_lt q.prefix (suc t.prefix)) in
    let few = crowded w (suc t.prefix) b q (is_pair w b q h.second hq order) k.fits k.second_is_longer pq (sym same) in
    let all = others_add_up w a b h in
    let r : Goal = absurd (omega
    (arith, few, all, k.size, least, some_q, size_falls w (suc t.prefix) a.prefix k.first_is_longer)) in r)
    (λ (ok : end_of w t ≤ q.address). ok)
    (cases_lt q.address (end_of w t))

-- the block before a pair with fewer others is not in their block
pub none_before : (w : ℕ) (p a b : Network) → IsPair w a b (joined w a b) → IsCidrBlock w p → end_of w p ≤ a.address
    → others w a b < others w p a → end_of w p ≤ (joined w a b).address
none_before w p a b h hp order least =
    let t : Network = joined w a b in
    let Goal : Type 0 = end_of w p ≤ t.address in
    let k = in_halves w a b t h in
    let half : ℕ = block_size w (suc t.prefix) in
    let some : 0 < half = size_pos w (suc t.prefix) in
    let some_p = size_pos w p.prefix in
    let own = own_half half a.address some in
    let top : ℕ = high w p in
    let top_is : top + 1 ≡ end_of w p = omega (arith, hp.block, some_p) in
    ⊎_elim
    (λ (inner : t.address < end_of w p).
    let same : top / half ≡ a.address / half = div_within (a.address / half) half top
    (omega (arith, k.first_half, inner, top_is)) (omega (arith, own.1, order, top_is)) in
    let top_of : top / block_size w p.prefix ≡ p.address / block_size w p.prefix =
    (has_ends w p hp.network).high_is_member.1 in
    let pp : suc t.prefix ≤ p.prefix = ⊎_elim
    (λ (wide : p.prefix < suc t.prefix).
    let agree = coarser_size w p.prefix (suc t.prefix) top a.address (omega (arith, wide)) k.fits same in
    let m : Member w p a.address = (h.first.network.address_fits, sym agree ∙ top_of) in
    let r : suc t.prefix ≤ p.prefix = absurd (omega (arith, within_member w p a.address m, hp.block, order)) in r)
    (λ (ok : suc t.prefix ≤ p.prefix). ok)
    (cases_lt p.prefix (suc t.prefix)) in
    let in_half : p.address / half ≡ a.address / half =
    sym (coarser_size w (suc t.prefix) p.prefix top p.address pp hp.network.prefix_fits top_of) ∙ same in
    let few = crowded w (suc t.prefix) p a (is_pair w p a hp h.first order) k.fits pp k.first_is_longer in_half in
    let all = others_add_up w a b h in
    let r : Goal = absurd (omega
    (arith, few, all, k.size, least, some_p, size_falls w (suc t.prefix) b.prefix k.second_is_longer)) in r)
    (λ (ok : end_of w p ≤ t.address). ok)
    (cases_lt t.address (end_of w p))
