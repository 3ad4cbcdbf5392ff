-- The first free block of a prefix length lies in the first block of the free part that is wide enough.
use Rattle.ipnetwork_sets.proofs.Words.{◌≡◌, ℕ, ◌<◌, ◌≤◌, sym, refl, ap, subst, ◌∙◌, arith, ⊎_elim, List, [], ◌∷◌, ◌++◌, append_assoc, Option, None, Some, MatchOption, AllPairs, Contains, Contains-append_cases, Contains-append_right, Network, Subnet, block_at, subnet_prefix, within_member, block_at_network, block_at_holds, block_at_subnet, LiesInUnion, AggregateHasNetworks, IsMaximalIn, IsLeastList, own_address, contains_cons, contains_head, contains_nil, pairs_tail, pairs_head, IsFreeBlock, NoBlockIsFree, IsFirstFree, IsAddressSet, InNetworkAlone}
use Rattle.ipnetwork_sets.proofs.SetLaws.{free_is_shortest, least_is_set}

-- the blocks passed have a longer prefix length, and `left` are the blocks after them
pub record IsPassing (all : List Network) (p : ℕ) (left : List Network) : Type 0 where
  pub passed : List Network
  pub parts : all ≡ passed ++ left
  pub longer : (b : Network) → Contains passed b → p < b.prefix

pub passing_starts : (all : List Network) (p : ℕ) → IsPassing all p all
passing_starts all p = record {
  passed = [];
  parts = refl;
  longer = λ b c. absurd (contains_nil b c);
}

pub passing_goes_on : (all : List Network) (p : ℕ) (left after : List Network) (b : Network) → IsPassing all p left
    → left ≡ b ∷ after → p < b.prefix → IsPassing all p after
passing_goes_on all p left after b h e l = record {
  passed = h.passed ++ b ∷ [];
  parts = h.parts ∙ ap (λ t. h.passed ++ t) e ∙ sym (append_assoc h.passed (b ∷ []) after);
  longer = λ c d. ⊎_elim
      (λ (f : Contains h.passed c). h.longer c f)
      (λ (f : Contains (b ∷ []) c). ⊎_elim
      (λ (g : b ≡ c). subst (λ (n : Network). p < n.prefix) g l)
      (λ (g : Contains [] c). absurd (contains_nil c g))
      (contains_cons b [] c f))
      (Contains-append_cases h.passed (b ∷ []) c d);
}

pairs_behind : (R : Network → Network → Type 0) (xs ys : List Network) → AllPairs R (xs ++ ys) → AllPairs R ys
pairs_behind R [] ys h = h
pairs_behind R (x ∷ xs) ys h = pairs_behind R xs ys (pairs_tail R x (xs ++ ys) h)

abbrev Before : Network → Network → Type 0
Before a b = a.address < b.address

module _ (w : ℕ) (n : Network) (a all : List Network) (p : ℕ) (networks : AggregateHasNetworks)
    (h : IsLeastList w (InNetworkAlone w n a) all) where
  maximal : (b : Network) → Contains all b → IsMaximalIn w (InNetworkAlone w n a) b
  maximal b c = (h.maximal b).0 c

  -- a free block lies in one of the blocks of the free part
  in_one : (o : Network) → IsFreeBlock w n a p o → (b : Network) × Contains all b × Subnet w o b
  in_one o f =
      let shortest = free_is_shortest w n a all h in
      let set : IsAddressSet w all = least_is_set w (InNetworkAlone w n a) all h shortest in
      let lies : LiesInUnion w o all = λ x m. (shortest.addresses x).1 (f.within x m, λ u. f.free (x, m, u)) in
      (networks w all all set o f.block.network).0 lies

  -- the block that it lies in has a prefix length of at most p, and begins no later
  as_wide : (o b : Network) → IsFreeBlock w n a p o → Contains all b → Subnet w o b → b.prefix ≤ p
  as_wide o b f c sub =
      let l = subnet_prefix w o b f.block.network (maximal b c).network sub in
      let e = f.as_long in
      omega (arith, l, e)

  begins : (o b : Network) → IsFreeBlock w n a p o → Contains all b → Subnet w o b → b.address ≤ o.address
  begins o b f c sub =
      let i = within_member w b o.address (sub o.address (own_address w o f.block.network)) in
      let z = (maximal b c).block in
      omega (arith, i.0, z)

  -- the block that it lies in is not one of those passed
  not_passed : (left : List Network) (o b : Network) → IsPassing all p left → IsFreeBlock w n a p o → Contains all b
      → Subnet w o b → Contains left b
  not_passed left o b k f c sub =
      ⊎_elim
      (λ (d : Contains k.passed b). let l = k.longer b d in let m = as_wide o b f c sub in
      let r : Contains left b = absurd (omega arith) in r)
      (λ (d : Contains left b). d)
      (Contains-append_cases k.passed left b (subst (λ (t : List Network). Contains t b) k.parts c))

  pub none_free : (left : List Network) → IsPassing all p left → left ≡ [] → NoBlockIsFree w n a p
  none_free left k e o f =
      let held = in_one o f in
      contains_nil held.0 (subst (λ (t : List Network). Contains t held.0) e
      (not_passed left o held.0 k f held.1 held.2))

  pub none_so_long : w < p → NoBlockIsFree w n a p
  none_so_long l o f = let e = f.as_long in let fits = f.block.network.prefix_fits in omega (arith, e, fits, l)

  -- the first block that is wide enough has the first free block
  pub first_in : (left after : List Network) (b : Network) → IsPassing all p left → left ≡ b ∷ after → b.prefix ≤ p
      → p ≤ w → IsFirstFree w n a p (block_at w b.address p)
  first_in left after b k e wide fits =
      let here : Contains all b = subst (λ (t : List Network). Contains t b) (sym k.parts)
      (Contains-append_right k.passed left b
      (subst (λ (t : List Network). Contains t b) (sym e) (contains_head b after))) in
      let m = maximal b here in
      let d : Network = block_at w b.address p in
      let block = block_at_network w b.address p m.network.address_fits fits in
      let sub : Subnet w d b = block_at_subnet w b.address p b wide fits (own_address w b m.network) in
      let i = within_member w d b.address (block_at_holds w b.address p m.network.address_fits) in
      let z = block.block in
      let up : AllPairs Before (b ∷ after) = subst (λ (t : List Network). AllPairs Before t) e
      (pairs_behind Before k.passed left (subst (λ (t : List Network). AllPairs Before t) k.parts h.ascending)) in
      record {
        one = record {
          block = block;
          as_long = refl;
          within = λ x y. (m.lies x (sub x y)).0;
          free = λ meets. (m.lies meets.0 (sub meets.0 meets.1)).1 meets.2;
        };
        first = λ o f.
            let held = in_one o f in
            let c : Network = held.0 in
            let start = begins o c f held.1 held.2 in
            ⊎_elim
            (λ (g : b ≡ c). let same : b.address ≡ c.address = ap (λ t. t.address) g in
            let r : d.address ≤ o.address = omega (arith, i.0, z, start, same) in r)
            (λ (g : Contains after c). let l = pairs_head Before b after up c g in
            let r : d.address ≤ o.address = omega (arith, i.0, z, start, l) in r)
            (contains_cons b after c (subst (λ (t : List Network). Contains t c) e
            (not_passed left o c k f held.1 held.2)));
      }

  -- the call of `block` returns the first free block, or `None` if there is none
  pub answers : (left after : List Network) (b : Network) {X : Type 0} (pair : X → Network) (found : Option X) (x : ℕ)
      → IsPassing all p left → left ≡ b ∷ after → b.prefix ≤ p
      → x ≡ b.address → MatchOption found (w < p) (λ n. (p ≤ w) × (pair n ≡ block_at w x p))
      → MatchOption found (NoBlockIsFree w n a p) (λ d. IsFirstFree w n a p (pair d))
  answers left after b pair None x k e wide at m = none_so_long m
  answers left after b pair (Some d) x k e wide at m =
      subst (IsFirstFree w n a p) (sym (m.1 ∙ ap (λ y. block_at w y p) at)) (first_in left after b k e wide m.0)
