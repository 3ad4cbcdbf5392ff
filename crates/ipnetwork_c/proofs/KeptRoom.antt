-- The union and the intersection of two sets have at most as many blocks as both together.
use Rattle.ipnetwork_c.proofs.Words.{◌≡◌, ◌↔◌, ℕ, suc, ◌+◌, ◌<◌, ◌≤◌, ◌⊎◌, inl, inr, ⊎_elim, List, [], ◌∷◌, ◌++◌, length, get_or, Bool, true, false, true≢false, ◌&&◌, cond, refl, sym, ap, subst, ◌∙◌, arith, le-leb, leb, leb-true, and_parts, cases_lt, length-append, All, Contains, Contains-append_cases, Contains-append_left, Contains-append_right, Contains-get_or, contains_cons, contains_head, contains_nil, contains_tail, is_member, Network, IsNetwork, Member, membership_computed, shares_address, subnet_from, InUnion, IsLeastList, IsAddressSet, InBoth, InEither, CommonPartIsShortest, UnionIsShortest, Operation, Union, Intersection, Difference, kept_by, SurelyFits}

-- ---- the networks of a list that lie in one of another list

abbrev lies_in : ℕ → Network → Network → Bool
lies_in w n b = leb b.prefix n.prefix && is_member w b n.address

abbrev lies_in_one : ℕ → List Network → Network → Bool
lies_in_one w [] n = false
lies_in_one w (b ∷ bs) n = cond (lies_in w n b) true (lies_in_one w bs n)

abbrev inside : ℕ → List Network → List Network → List Network
inside w others [] = []
inside w others (n ∷ ns) = cond (lies_in_one w others n) (n ∷ inside w others ns) (inside w others ns)

-- the network b has the address of n, and is as wide
pub record Around (w : ℕ) (n : Network) (others : List Network) : Type 0 where
  pub network : Network
  pub listed : Contains others network
  pub wide : network.prefix ≤ n.prefix
  pub has : Member w network n.address

one_of : (s t : Bool) → cond s true t ≡ true → (s ≡ true) ⊎ (t ≡ true)
one_of true t e = inl refl
one_of false t e = inr e

or_other : (s t : Bool) → t ≡ true → cond s true t ≡ true
or_other true t e = refl
or_other false t e = e

around : (w : ℕ) (n : Network) (others : List Network) → lies_in_one w others n ≡ true → Around w n others
around w n [] e = absurd (true≢false (sym e))
around w n (b ∷ bs) e = ⊎_elim
    (λ (s : lies_in w n b ≡ true).
    let both = and_parts (leb b.prefix n.prefix) (is_member w b n.address) s in
    record {
      network = b;
      listed = contains_head b bs;
      wide = leb-true b.prefix n.prefix both.0;
      has = (membership_computed w b n.address).0 both.1;
    })
    (λ (t : lies_in_one w bs n ≡ true).
    let r : Around w n bs = around w n bs t in
    record {
      network = r.network;
      listed = contains_tail b bs r.network r.listed;
      wide = r.wide;
      has = r.has;
    })
    (one_of (lies_in w n b) (lies_in_one w bs n) e)

lies : (w : ℕ) (n b : Network) (others : List Network) → Contains others b → b.prefix ≤ n.prefix
    → Member w b n.address → lies_in_one w others n ≡ true
lies w n b [] c le m = absurd (contains_nil b c)
lies w n b (a ∷ bs) c le m = ⊎_elim
    (λ (e : a ≡ b).
    let here : lies_in w n b ≡ true = ap (λ t. t && is_member w b n.address) (le-leb b.prefix n.prefix le)
    ∙ (membership_computed w b n.address).1 m in
    ap (λ t. cond t true (lies_in_one w bs n)) (ap (lies_in w n) e ∙ here))
    (λ (d : Contains bs b). or_other (lies_in w n a) (lies_in_one w bs n) (lies w n b bs d le m))
    (contains_cons a bs b c)

-- ---- a network that is kept or not

put : (t : Bool) (a n : Network) (rest : List Network) → ((a ≡ n) × (t ≡ true)) ⊎ Contains rest n
    → Contains (cond t (a ∷ rest) rest) n
put true a n rest (inl p) = subst (λ (m : Network). Contains (a ∷ rest) m) p.0 (contains_head a rest)
put true a n rest (inr c) = contains_tail a rest n c
put false a n rest (inl p) = absurd (true≢false (sym p.1))
put false a n rest (inr c) = c

taken : (t : Bool) (a n : Network) (rest : List Network) → Contains (cond t (a ∷ rest) rest) n
    → ((a ≡ n) × (t ≡ true)) ⊎ Contains rest n
taken true a n rest c = ⊎_elim (λ (e : a ≡ n). inl (e, refl)) (λ (d : Contains rest n). inr d)
    (contains_cons a rest n c)
taken false a n rest c = inr c

no_longer : (t : Bool) (a : Network) (rest : List Network) (k : ℕ) → length rest ≤ k
    → length (cond t (a ∷ rest) rest) ≤ suc k
no_longer true a rest k l = omega arith
no_longer false a rest k l = omega arith

inside_has : (w : ℕ) (others ns : List Network) (n : Network) → Contains ns n → lies_in_one w others n ≡ true
    → Contains (inside w others ns) n
inside_has w others [] n c e = absurd (contains_nil n c)
inside_has w others (a ∷ ns) n c e = put (lies_in_one w others a) a n (inside w others ns) (⊎_elim
    (λ (s : a ≡ n). inl (s, ap (lies_in_one w others) s ∙ e))
    (λ (d : Contains ns n). inr (inside_has w others ns n d e))
    (contains_cons a ns n c))

inside_from : (w : ℕ) (others ns : List Network) (n : Network) → Contains (inside w others ns) n
    → Contains ns n × Around w n others
inside_from w others [] n c = absurd (contains_nil n c)
inside_from w others (a ∷ ns) n c = ⊎_elim
    (λ (p : (a ≡ n) × (lies_in_one w others a ≡ true)). (
      subst (λ (m : Network). Contains (a ∷ ns) m) p.0 (contains_head a ns),
      subst (λ (m : Network). Around w m others) p.0 (around w a others p.1),
    ))
    (λ (d : Contains (inside w others ns) n).
    let r = inside_from w others ns n d in (contains_tail a ns n r.0, r.1))
    (taken (lies_in_one w others a) a n (inside w others ns) c)

inside_length : (w : ℕ) (others ns : List Network) → length (inside w others ns) ≤ length ns
inside_length w others [] = omega arith
inside_length w others (a ∷ ns) = no_longer (lies_in_one w others a) a (inside w others ns) (length ns)
    (inside_length w others ns)

-- ---- the blocks of two sets

module _ (w : ℕ) (first second : List Network) (hf : IsAddressSet w first) (hs : IsAddressSet w second) where
  of_first : (n : Network) → Contains first n → IsNetwork w n
  of_first n c = ((hf.maximal n).0 c).network

  of_second : (n : Network) → Contains second n → IsNetwork w n
  of_second n c = ((hs.maximal n).0 c).network

  -- the blocks of each set that lie in one of the other set
  abbrev nested : List Network
  nested = inside w second first ++ inside w first second

  nested_has : (x : ℕ) → InUnion w nested x ↔ InBoth w first second x
  nested_has x = (
    (λ (u : InUnion w nested x). ⊎_elim
        (λ (c : Contains (inside w second first) u.0).
        let r = inside_from w second first u.0 c in
        let b : Network = r.1.network in
        ((u.0, r.0, u.2), (b, r.1.listed, subnet_from w u.0 b (of_first u.0 r.0) r.1.wide r.1.has x u.2)))
        (λ (c : Contains (inside w first second) u.0).
        let r = inside_from w first second u.0 c in
        let b : Network = r.1.network in
        ((b, r.1.listed, subnet_from w u.0 b (of_second u.0 r.0) r.1.wide r.1.has x u.2), (u.0, r.0, u.2)))
        (Contains-append_cases (inside w second first) (inside w first second) u.0 u.1)),
    (λ (p : InBoth w first second x).
        let a : Network = p.0.0 in
        let b : Network = p.1.0 in
        let na = of_first a p.0.1 in
        let nb = of_second b p.1.1 in
        ⊎_elim
        (λ (l : a.prefix < b.prefix).
        let m : Member w a b.address = shares_address w b a x (omega arith) nb na p.1.2 p.0.2 in (
          b,
          Contains-append_right (inside w second first) (inside w first second) b
              (inside_has w first second b p.1.1 (lies w b a first p.0.1 (omega arith) m)),
          p.1.2,
        ))
        (λ (le : b.prefix ≤ a.prefix).
        let m : Member w b a.address = shares_address w a b x le na nb p.0.2 p.1.2 in (
          a,
          Contains-append_left (inside w second first) (inside w first second) a
              (inside_has w second first a p.0.1 (lies w a b second p.1.1 le m)),
          p.0.2,
        ))
        (cases_lt a.prefix b.prefix)),
  )

  nested_are : All (IsNetwork w) nested
  nested_are k d l =
      let n : Network = get_or nested k d in
      ⊎_elim
      (λ (c : Contains (inside w second first) n). of_first n (inside_from w second first n c).0)
      (λ (c : Contains (inside w first second) n). of_second n (inside_from w first second n c).0)
      (Contains-append_cases (inside w second first) (inside w first second) n (Contains-get_or nested k d l))

  all_have : (x : ℕ) → InUnion w (first ++ second) x ↔ InEither w first second x
  all_have x = (
    (λ (u : InUnion w (first ++ second) x). ⊎_elim
        (λ (c : Contains first u.0). inl (u.0, c, u.2))
        (λ (c : Contains second u.0). inr (u.0, c, u.2))
        (Contains-append_cases first second u.0 u.1)),
    (λ (e : InEither w first second x). ⊎_elim
        (λ (u : InUnion w first x). (u.0, Contains-append_left first second u.0 u.1, u.2))
        (λ (u : InUnion w second x). (u.0, Contains-append_right first second u.0 u.1, u.2)) e),
  )

  all_are : All (IsNetwork w) (first ++ second)
  all_are k d l =
      let n : Network = get_or (first ++ second) k d in
      ⊎_elim (λ (c : Contains first n). of_first n c) (λ (c : Contains second n). of_second n c)
      (Contains-append_cases first second n (Contains-get_or (first ++ second) k d l))

  -- `SurelyFits` implies that what an operation keeps fits
  pub kept_fits : (operation : Operation) (rows others room : ℕ) (blocks : List Network) → CommonPartIsShortest
      → UnionIsShortest → rows ≡ length first → others ≡ length second → SurelyFits operation rows others room
      → IsLeastList w (kept_by operation w first second) blocks → length blocks ≤ room
  kept_fits Union rows others room blocks common union e f fits least =
      let most = (union w first second blocks least).shortest (first ++ second) all_are all_have in
      omega (arith, most, length-append first second, fits)
  kept_fits Intersection rows others room blocks common union e f fits least =
      let most = (common w first second blocks least).shortest nested nested_are nested_has in
      omega (
        arith,
        most,
        length-append (inside w second first) (inside w first second),
        fits,
        inside_length w second first,
        inside_length w first second,
      )
  kept_fits Difference rows others room blocks common union e f fits least = absurd fits
