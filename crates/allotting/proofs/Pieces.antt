-- The pieces of the blocks of a set are the blocks of their prefix length in it.
use Rattle.allotting.proofs.Words.{◌≡◌, ◌↔◌, ℕ, ◌-◌, ◌/◌, ◌^◌, Some, NextPieces, block_size, pow_pos, ◌<◌, ◌≤◌, ◌&&◌, sym, refl, ap, subst, ◌∙◌, arith, ⊎_elim, Bool, true, false, and_parts, leb-true, le-leb, List, [], ◌∷◌, ◌++◌, if◌then◌else◌, nat_le, AllPairs, Contains, Contains-append_cases, Contains-append_left, Contains-append_right, contains_cons, contains_head, contains_nil, contains_tail, pairs_append, pairs_head, pairs_tail, Network, IsNetwork, IsCidrBlock, Subnet, low, high, has_ends, within_member, own_address, subnet_prefix, subnets_of, InUnion, AggregateHasNetworks, AggregateIsApart, IsMaximalIn, IsAddressSet, AreFreeBlocks, pieces, pieces_in}
use Rattle.allotting.proofs.Runs.{Apart, inside, outside, some_run, subnets_apart}

-- ---- the pieces of a block

-- c is a block of the length within the block
pub record IsPiece (w p : ℕ) (b c : Network) : Type 0 where
  pub block : IsCidrBlock w c
  pub as_long : c.prefix ≡ p
  pub within : Subnet w c b

module _ (w p : ℕ) (b : Network) (net : IsNetwork w b) where
  abbrev Ok : Type 0
  Ok = (b.prefix ≤ p) × (p ≤ w)

  ok : (nat_le b.prefix p && nat_le p w) ≡ true → Ok
  ok e = let both = and_parts (nat_le b.prefix p) (nat_le p w) e in
      (leb-true b.prefix p both.0, leb-true p w both.1)

  -- what holds of the pieces, from what holds of the subnets, and of no network
  by_cases : (P : List Network → Type 0) → (Ok → P (subnets_of w b p)) → P [] → P (pieces w p b)
  by_cases P some none = go (nat_le b.prefix p && nat_le p w) refl
    where
      go : (t : Bool) → (nat_le b.prefix p && nat_le p w) ≡ t → P (if t then subnets_of w b p else [])
      go true e = some (ok e)
      go false e = none

  pub piece_of : (c : Network) → Contains (pieces w p b) c → IsPiece w p b c
  piece_of c = by_cases (λ l. Contains l c → IsPiece w p b c)
      (λ o h. let i = inside w p b net o.0 o.1 c h in record { block = i.0; as_long = i.1; within = i.2 })
      (λ h. absurd (contains_nil c h))

  pub has_piece : (c : Network) → IsPiece w p b c → Contains (pieces w p b) c
  has_piece c i =
      let wide : b.prefix ≤ p = subst (λ (q : ℕ). b.prefix ≤ q) i.as_long
      (subnet_prefix w c b i.block.network net i.within) in
      let fits : p ≤ w = subst (λ (q : ℕ). q ≤ w) i.as_long i.block.network.prefix_fits in
      let test : (nat_le b.prefix p && nat_le p w) ≡ true = ap (λ t. t && nat_le p w) (le-leb b.prefix p wide)
      ∙ le-leb p w fits in
      subst (λ (t : Bool). Contains (if t then subnets_of w b p else []) c) (sym test)
      (outside w p b net wide fits c i.block i.as_long i.within)

  pub pieces_apart : AllPairs (Apart w) (pieces w p b)
  pieces_apart = by_cases (AllPairs (Apart w)) (λ o. subnets_apart w p b net o.0 o.1)
      (λ i j d l m. absurd (omega (arith, l, m)))

-- a piece ends no later than its block, and begins no earlier
ends_within : (w p : ℕ) (b c : Network) → IsNetwork w b → IsPiece w p b c → high w c ≤ high w b
ends_within w p b c net i =
    let m = within_member w b (high w c) (i.within (high w c) (has_ends w c i.block.network).high_is_member) in
    omega (arith, m.1)

begins_within : (w p : ℕ) (b c : Network) → IsCidrBlock w b → IsPiece w p b c → b.address ≤ c.address
begins_within w p b c net i =
    let m = within_member w b c.address (i.within c.address (own_address w c i.block.network)) in
    let e = net.block in
    omega (arith, m.0, e)

-- ---- the pieces of several blocks

module _ (w p : ℕ) where
  abbrev AreBlocks : List Network → Type 0
  AreBlocks blocks = (b : Network) → Contains blocks b → IsCidrBlock w b

  pub in_one : (blocks : List Network) (c : Network) → Contains (pieces_in w p blocks) c
      → (b : Network) × Contains blocks b × Contains (pieces w p b) c
  in_one [] c h = absurd (contains_nil c h)
  in_one (b ∷ blocks) c h =
      ⊎_elim
      (λ (k : Contains (pieces w p b) c). (b, contains_head b blocks, k))
      (λ (k : Contains (pieces_in w p blocks) c). let i = in_one blocks c k in (i.0, contains_tail b blocks i.0 i.1, i.2))
      (Contains-append_cases (pieces w p b) (pieces_in w p blocks) c h)

  pub of_one : (blocks : List Network) (b c : Network) → Contains blocks b → Contains (pieces w p b) c
      → Contains (pieces_in w p blocks) c
  of_one [] b c h k = absurd (contains_nil b h)
  of_one (a ∷ blocks) b c h k =
      ⊎_elim
      (λ (e : a ≡ b). Contains-append_left (pieces w p a) (pieces_in w p blocks) c
      (subst (λ (x : Network). Contains (pieces w p x) c) (sym e) k))
      (λ (t : Contains blocks b). Contains-append_right (pieces w p a) (pieces_in w p blocks) c (of_one blocks b c t k))
      (contains_cons a blocks b h)

  pub all_apart : (blocks : List Network) → AreBlocks blocks → AllPairs (Apart w) blocks
      → AllPairs (Apart w) (pieces_in w p blocks)
  all_apart [] h k = λ i j d l m. absurd (omega (arith, l, m))
  all_apart (b ∷ blocks) h k =
      let own = h b (contains_head b blocks) in
      pairs_append (Apart w) (pieces w p b) (pieces_in w p blocks) (pieces_apart w p b own.network)
      (all_apart blocks (λ x t. h x (contains_tail b blocks x t)) (pairs_tail (Apart w) b blocks k))
      (λ c d f g.
      let other = in_one blocks d g in
      let e = other.0 in
      let block = h e (contains_tail b blocks e other.1) in
      let l = ends_within w p b c own.network (piece_of w p b own.network c f) in
      let m : high w b < e.address = pairs_head (Apart w) b blocks k e other.1 in
      let n = begins_within w p e d block (piece_of w p e block.network d other.2) in
      omega (arith, l, m, n))

  module _ (blocks : List Network) (networks : AggregateHasNetworks) (apart : AggregateIsApart)
      (set : IsAddressSet w blocks) where
    is_block : (b : Network) → Contains blocks b → IsCidrBlock w b
    is_block b c = let m : IsMaximalIn w (InUnion w blocks) b = (set.maximal b).0 c in
        record { network = m.network; block = m.block }

    pub are_free : AreFreeBlocks w (InUnion w blocks) p (pieces_in w p blocks)
    are_free = record {
      all = λ c. (
        (λ h. let one = in_one blocks c h in
            let block = is_block one.0 one.1 in
            let i = piece_of w p one.0 block.network c one.2 in
            record { block = i.block; as_long = i.as_long; lies = λ x m. (one.0, one.1, i.within x m) }),
        (λ f. let one = (networks w blocks blocks set c f.block.network).0 f.lies in
            of_one blocks one.0 c one.1 (has_piece w p one.0 (is_block one.0 one.1).network c
            (record { block = f.block; as_long = f.as_long; within = one.2 }))),
      );
      apart = all_apart blocks is_block (apart w blocks blocks set);
    }

-- the pieces of the first block that has any, and then those of the blocks after it
pub next_at_hand : (w p : ℕ) (before mid after left : List Network) (b : Network)
    → pieces_in w p before ≡ pieces_in w p mid → mid ≡ b ∷ after
    → (b.prefix ≤ p) × (p ≤ w) × (left ≡ subnets_of w b p) → NextPieces w p before after (Some left)
next_at_hand w p before mid after left b same is h =
    let one = some_run w p (low w b / block_size w p) (2 ^ (p - b.prefix)) (pow_pos (p - b.prefix)) in
    let test : (nat_le b.prefix p && nat_le p w) ≡ true = ap (λ t. t && nat_le p w) (le-leb b.prefix p h.0)
    ∙ le-leb p w h.1 in
    let here : pieces w p b ≡ left = ap (λ t. if t then subnets_of w b p else []) test ∙ sym h.2 in (
      one.0,
      one.1,
      h.2 ∙ one.2,
      same ∙ ap (pieces_in w p) is ∙ ap (λ t. t ++ pieces_in w p after) here,
    )

-- free blocks are those of another set with the same addresses, too
pub free_in_same : (w p : ℕ) (some same : ℕ → Type 0) (list : List Network) → ((x : ℕ) → some x ↔ same x)
    → AreFreeBlocks w some p list → AreFreeBlocks w same p list
free_in_same w p some same list e h = record {
  all = λ c. (
    (λ k. let f = (h.all c).0 k in
        record { block = f.block; as_long = f.as_long; lies = λ x m. (e x).0 (f.lies x m) }),
    (λ f. (h.all c).1 (record { block = f.block; as_long = f.as_long; lies = λ x m. (e x).1 (f.lies x m) })),
  );
  apart = h.apart;
}
