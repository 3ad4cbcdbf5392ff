-- The block that contains an address, and the halves of a block.
use Rattle.ipnetwork_blocks.proofs.Words.{◌≡◌, ◌≢◌, Option, None, Some, MatchOption, ℕ, zero, suc, ◌+◌, ◌-◌, ◌*◌, ◌/◌, ◌^◌, ◌<◌, ◌≤◌, ◌⊎◌, ◌↔◌, inl, inr, sym, refl, ap, subst, ◌∙◌, arith, ⊎_elim, div-mul-le_self, lt-div-mul-add, cases_lt, Network, IsNetwork, HostBitsAreZero, Member, Overlap, low, high, block_size, block_of, div_within, size_pos, block_fits_too, block_begins, within_member, member_within, subnet_from, block_same_set, IsAround, IsSibling, parent}
use Rattle.ipnetwork_blocks.proofs.FollowingBlock.{block_low, high_after}
use Rattle.ipnetwork_blocks.proofs.HalfBlocks.{size_half}

-- the block of a shorter prefix length that contains the network
pub around_made : (w p : ℕ) (n : Network) → IsNetwork w n → p ≤ n.prefix
    → IsAround w n p (block_of w (record { address = n.address; prefix = p }))
around_made w p n h le =
    let k : Network = record { address = n.address; prefix = p } in
    let kn : IsNetwork w k = record { address_fits = h.address_fits; prefix_fits = omega (arith, h.prefix_fits) } in
    record {
      block = record { network = block_fits_too w k kn; block = block_begins w k };
      as_long = refl;
      around = λ x m. (block_same_set w k x).1 (subnet_from w n k h le (h.address_fits, refl) x m);
    }

-- what making the block that contains the network returns
pub supernet_answer : (w : ℕ) (n : Network) {X : Type 0} (pair : X → Network) (answer : Option X) (x p : ℕ)
    → IsNetwork w n → x ≡ n.address → p ≤ n.prefix
    → MatchOption answer (w < p) (λ m. (p ≤ w) × (pair m ≡ block_of w (record { address = x; prefix = p })))
    → MatchOption answer (n.prefix < p) (λ m. (p ≤ n.prefix) × IsAround w n p (pair m))
supernet_answer w n pair None x p net at le h = absurd (omega (arith, h, le, net.prefix_fits))
supernet_answer w n pair (Some m) x p net at le h =
    let made : pair m ≡ block_of w (record { address = n.address; prefix = p }) = h.1
    ∙ ap (λ k. block_of w (record { address = k; prefix = p })) at in
    (le, subst (λ (b : Network). IsAround w n p b) (sym made) (around_made w p n net le))

-- the parent is twice as large as the network
parent_size : (w : ℕ) (n : Network) → IsNetwork w n → 0 < n.prefix
    → block_size w (n.prefix - 1) ≡ block_size w n.prefix + block_size w n.prefix
parent_size w n h pos =
    let back : n.prefix - 1 + 1 ≡ n.prefix = omega arith in
    size_half w (n.prefix - 1) (omega (arith, h.prefix_fits)) ∙ ap (λ k. block_size w k + block_size w k) back

-- a network begins where its parent does, or half the parent's size later
pub half_begins : (w : ℕ) (n : Network) → IsNetwork w n → 0 < n.prefix
    → (low w n ≡ low w (parent w n)) ⊎ (low w n ≡ low w (parent w n) + block_size w n.prefix)
half_begins w n h pos =
    let s : ℕ = block_size w n.prefix in
    let wide : Network = record { address = n.address; prefix = n.prefix - 1 } in
    let big : ℕ = block_size w (n.prefix - 1) in
    let x : ℕ = n.address in
    let a : ℕ = x / big in
    let s_pos : 0 < s = size_pos w n.prefix in
    let half : big ≡ s + s = parent_size w n h pos in
    let from : a * big ≤ x = div-mul-le_self x big in
    let to : x < a * big + big = lt-div-mul-add (size_pos w (n.prefix - 1)) in
    let whole : a * big ≡ a * 2 * s = ap (λ k. a * k) half ∙ (omega arith) in
    let base : low w (parent w n) ≡ a * 2 * s = block_low w wide ∙ whole in
    let Goal : Type 0 = (low w n ≡ low w (parent w n)) ⊎ (low w n ≡ low w (parent w n) + s) in
    ⊎_elim
    (λ (lower : x < a * 2 * s + s).
    let own : x / s ≡ a * 2 = div_within (a * 2) s x (omega (arith, from, whole)) lower in
    let r : Goal = inl (ap (λ k. k * s) own ∙ sym base) in r)
    (λ (ge : a * 2 * s + s ≤ x).
    let own : x / s ≡ a * 2 + 1 = div_within (a * 2 + 1) s x (omega arith) (omega (arith, to, whole, half)) in
    let r : Goal = inr (ap (λ k. k * s) own ∙ (omega (arith, base))) in r)
    (cases_lt x (a * 2 * s + s))

-- two blocks that make up one block from base on: each has s addresses, and the upper begins where the lower ends
record Halves (w base s : ℕ) (lower upper : Network) : Type 0 where
  pub lower_network : IsNetwork w lower
  pub upper_network : IsNetwork w upper
  pub lower_size : block_size w lower.prefix ≡ s
  pub upper_size : block_size w upper.prefix ≡ s
  pub lower_begins : low w lower ≡ base
  pub upper_begins : low w upper ≡ base + s

halves_apart : (w base s : ℕ) (lower upper : Network) → Halves w base s lower upper → ¬ (Overlap w lower upper)
halves_apart w base s lower upper h o =
    let i = within_member w lower o.0 o.1 in
    let j = within_member w upper o.0 o.2 in
    omega (arith, i.1, j.0, h.lower_begins, h.lower_size, h.upper_begins)

halves_whole : (w base s : ℕ) (lower upper b : Network) → Halves w base s lower upper → IsNetwork w b → low w b ≡ base
    → block_size w b.prefix ≡ s + s
    → (x : ℕ) → Member w b x ↔ (Member w lower x ⊎ Member w upper x)
halves_whole w base s lower upper b h net begins size x = (
  (λ m.
      let i = within_member w b x m in
      ⊎_elim
      (λ (l : x < base + s). inl (member_within w lower h.lower_network x (omega (arith, i.0, begins, h.lower_begins))
      (omega (arith, l, h.lower_begins, h.lower_size))))
      (λ (ge : base + s ≤ x). inr (member_within w upper h.upper_network x (omega (arith, ge, h.upper_begins))
      (omega (arith, i.1, begins, size, h.upper_begins, h.upper_size))))
      (cases_lt x (base + s))),
  (λ m. ⊎_elim
      (λ (m : Member w lower x).
      let i = within_member w lower x m in
      member_within w b net x (omega (arith, i.0, begins, h.lower_begins))
      (omega (arith, i.1, begins, size, h.lower_begins, h.lower_size)))
      (λ (m : Member w upper x).
      let i = within_member w upper x m in
      member_within w b net x (omega (arith, i.0, begins, h.upper_begins))
      (omega (arith, i.1, begins, size, h.upper_begins, h.upper_size))) m),
)

-- a network and the other half of its parent
pub sibling_from : (w : ℕ) (n b : Network) → IsNetwork w n → IsNetwork w b → 0 < n.prefix → b.prefix ≡ n.prefix
    → HostBitsAreZero w b
    → ((low w n ≡ low w (parent w n)) × (low w b ≡ low w (parent w n) + block_size w n.prefix))
    ⊎ ((low w n ≡ low w (parent w n) + block_size w n.prefix) × (low w b ≡ low w (parent w n)))
    → IsSibling w n b
sibling_from w n b h k pos same begins halves =
    let s : ℕ = block_size w n.prefix in
    let base : ℕ = low w (parent w n) in
    let wide : Network = record { address = n.address; prefix = n.prefix - 1 } in
    let net : IsNetwork w (parent w n) =
    block_fits_too w wide (record { address_fits = h.address_fits; prefix_fits = omega (arith, h.prefix_fits) }) in
    let size : block_size w b.prefix ≡ s = ap (block_size w) same in
    let double : block_size w (n.prefix - 1) ≡ s + s = parent_size w n h pos in
    ⊎_elim
    (λ (e : (low w n ≡ base) × (low w b ≡ base + s)).
    let both : Halves w base s n b =
    record {
      lower_network = h;
      upper_network = k;
      lower_size = refl;
      upper_size = size;
      lower_begins = e.0;
      upper_begins = e.1;
    } in
    record {
      block = record { network = k; block = begins };
      as_long = same;
      apart = halves_apart w base s n b both;
      whole = halves_whole w base s n b (parent w n) both net refl double;
    })
    (λ (e : (low w n ≡ base + s) × (low w b ≡ base)).
    let both : Halves w base s b n =
    record {
      lower_network = k;
      upper_network = h;
      lower_size = size;
      upper_size = refl;
      lower_begins = e.1;
      upper_begins = e.0;
    } in
    record {
      block = record { network = k; block = begins };
      as_long = same;
      apart = λ o. halves_apart w base s b n both (o.0, o.2, o.1);
      whole = λ x.
          let of = halves_whole w base s b n (parent w n) both net refl double x in (
            (λ m. ⊎_elim (λ (l : Member w b x). inr l) (λ (l : Member w n x). inl l) (of.0 m)),
            (λ m. of.1 (⊎_elim (λ (l : Member w n x). inr l) (λ (l : Member w b x). inl l) m)),
          );
    })
    halves

pub block_made : (w x p : ℕ) (n b : Network) → x ≡ n.address → p ≡ n.prefix
    → b ≡ block_of w (record { address = x; prefix = p }) → b ≡ block_of w n
block_made w x p n b at length made =
    let of : ℕ → ℕ → Network = λ address prefix. block_of w (record { address = address; prefix = prefix }) in
    made ∙ ap (λ k. of k p) at ∙ ap (of n.address) length

pub parent_made : (w x p : ℕ) (n b : Network) → x ≡ n.address → p ≡ n.prefix
    → b ≡ block_of w (record { address = x; prefix = p - 1 }) → b ≡ parent w n
parent_made w x p n b at length made =
    let of : ℕ → ℕ → Network = λ address prefix. block_of w (record { address = address; prefix = prefix }) in
    made ∙ ap (λ k. of k (p - 1)) at ∙ ap (λ k. of n.address (k - 1)) length

-- the block at an address in the other half of the parent
sibling_at : (w x : ℕ) (n : Network) → IsNetwork w n → 0 < n.prefix → x < 2 ^ w
    → ((low w n ≡ low w (parent w n)) × (low w (parent w n) + block_size w n.prefix ≤ x)
    × (x < low w (parent w n) + block_size w n.prefix + block_size w n.prefix))
    ⊎ ((low w n ≡ low w (parent w n) + block_size w n.prefix) × (low w (parent w n) ≤ x)
    × (x < low w (parent w n) + block_size w n.prefix))
    → IsSibling w n (block_of w (record { address = x; prefix = n.prefix }))
sibling_at w x n h pos fits within =
    let s : ℕ = block_size w n.prefix in
    let q : ℕ = n.address / s in
    let s_pos : 0 < s = size_pos w n.prefix in
    let base : ℕ = low w (parent w n) in
    let own : Network = record { address = x; prefix = n.prefix } in
    let net : IsNetwork w own = record { address_fits = fits; prefix_fits = h.prefix_fits } in
    sibling_from w n (block_of w own) h (block_fits_too w own net) pos refl (block_begins w own)
    (⊎_elim
    (λ (e : (low w n ≡ base) × (base + s ≤ x) × (x < base + s + s)).
    let from : (q + 1) * s ≤ x = omega (arith, e.0, e.1) in
    let at : x / s ≡ q + 1 = div_within (q + 1) s x from (omega (arith, e.0, e.2)) in
    inl (e.0, block_low w own ∙ ap (λ k. k * s) at ∙ (omega (arith, e.0))))
    (λ (e : (low w n ≡ base + s) × (base ≤ x) × (x < base + s)).
    inr (e.0, block_low w own ∙ lower q s x base s_pos e.0 e.1 e.2)) within)
  where
    lower : (q s x base : ℕ) → 0 < s → q * s ≡ base + s → base ≤ x → x < base + s → x / s * s ≡ base
    lower zero s x base pos e from to = absurd (omega arith)
    lower (suc q) s x base pos e from to =
        let whole : q * s ≡ base = omega arith in
        ap (λ k. k * s) (div_within q s x (omega (arith, whole)) (omega (arith, whole))) ∙ whole

-- what making the other half returns, given an address in it
sibling_answer : (w : ℕ) (n : Network) {X : Type 0} (pair : X → Network) (answer : Option X) (x p : ℕ) → IsNetwork w n
    → p ≡ n.prefix → 0 < n.prefix
    → IsSibling w n (block_of w (record { address = x; prefix = n.prefix }))
    → MatchOption answer (w < p) (λ m. (p ≤ w) × (pair m ≡ block_of w (record { address = x; prefix = p })))
    → MatchOption answer (n.prefix ≡ 0) (λ m. (0 < n.prefix) × IsSibling w n (pair m))
sibling_answer w n pair None x p net length pos is h = absurd (omega (arith, h, length, net.prefix_fits))
sibling_answer w n pair (Some m) x p net length pos is h =
    let made : pair m ≡ block_of w (record { address = x; prefix = n.prefix }) = h.1
    ∙ ap (λ k. block_of w (record { address = x; prefix = k })) length in
    (pos, subst (λ (b : Network). IsSibling w n b) (sym made) is)

-- a network that is not the whole address space, its parent, and where the two end
pub record IsHalf (w : ℕ) (n b : Network) (end last p : ℕ) : Type 0 where
  pub network : IsNetwork w n
  pub as_long : p ≡ n.prefix
  pub some : 0 < p
  pub parent_is : b ≡ parent w n
  pub end_is : end ≡ high w b
  pub last_is : last ≡ high w n

module _ (w : ℕ) (n b : Network) (end last p : ℕ) (half_is : IsHalf w n b end last p) where
  longer : 0 < n.prefix
  longer = omega (arith, half_is.some, half_is.as_long)

  at_end : end + 1 ≡ low w (parent w n) + block_size w n.prefix + block_size w n.prefix
  at_end =
      let half : block_size w (n.prefix - 1) ≡ block_size w n.prefix + block_size w n.prefix =
      parent_size w n half_is.network longer in
      ap (λ k. k + 1) (half_is.end_is ∙ ap (high w) half_is.parent_is) ∙ high_after w (parent w n)
      ∙ (omega (arith, half))

  own_end : last + 1 ≡ low w n + block_size w n.prefix
  own_end = ap (λ k. k + 1) half_is.last_is ∙ high_after w n

  -- if the network does not end where its parent does, the other half is the upper one
  pub upper_answer : {X : Type 0} (pair : X → Network) (answer : Option X) → end < 2 ^ w → last ≢ end
      → MatchOption answer (w < p) (λ m. (p ≤ w) × (pair m ≡ block_of w (record { address = end; prefix = p })))
      → MatchOption answer (n.prefix ≡ 0) (λ m. (0 < n.prefix) × IsSibling w n (pair m))
  upper_answer pair answer fits differ h =
      let s : ℕ = block_size w n.prefix in
      let base : ℕ = low w (parent w n) in
      let s_pos : 0 < s = size_pos w n.prefix in
      let Goal : Type 0 = IsSibling w n (block_of w (record { address = end; prefix = n.prefix })) in
      sibling_answer w n pair answer end p half_is.network half_is.as_long longer
      (⊎_elim (λ (e : low w n ≡ base). sibling_at w end n half_is.network longer fits
      (inl (e, omega (arith, at_end, s_pos), omega (arith, at_end))))
      (λ (e : low w n ≡ base + s). let r : Goal = absurd (differ (omega (arith, at_end, own_end, e))) in r)
      (half_begins w n half_is.network longer)) h

  -- if the network ends where its parent does, the other half is the lower one
  pub lower_answer : {X : Type 0} (pair : X → Network) (answer : Option X) (first : ℕ) → first < 2 ^ w → first ≡ low w b
      → last ≡ end
      → MatchOption answer (w < p) (λ m. (p ≤ w) × (pair m ≡ block_of w (record { address = first; prefix = p })))
      → MatchOption answer (n.prefix ≡ 0) (λ m. (0 < n.prefix) × IsSibling w n (pair m))
  lower_answer pair answer first fits first_is same h =
      let s : ℕ = block_size w n.prefix in
      let base : ℕ = low w (parent w n) in
      let s_pos : 0 < s = size_pos w n.prefix in
      let from : first ≡ base = first_is ∙ ap (low w) half_is.parent_is in
      let Goal : Type 0 = IsSibling w n (block_of w (record { address = first; prefix = n.prefix })) in
      sibling_answer w n pair answer first p half_is.network half_is.as_long longer
      (⊎_elim (λ (e : low w n ≡ base). let r : Goal = absurd (omega (arith, at_end, own_end, e, same, s_pos)) in r)
      (λ (e : low w n ≡ base + s). sibling_at w first n half_is.network longer fits
      (inr (e, omega (arith, from), omega (arith, from, s_pos)))) (half_begins w n half_is.network longer)) h
