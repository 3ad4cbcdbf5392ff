-- The steps of the intersection of two sets.
use Rattle.ipnetwork_sets.proofs.Words.{◌≡◌, ◌↔◌, ℕ, ◌<◌, ◌≤◌, inl, inr, refl, sym, subst, ap, ◌∙◌, arith, ⊎_elim, Bool, true, false, not, true≢false, IsTrue, from_bool, List, [], ◌∷◌, map, drop, drop-map, All, All-drop, cases_lt, Network, IsCidrBlock, Member, Overlap, Subnet, subnet_from, shares_address, high, size_pos, within_member, member_within, LiesIn, InUnion, AggregateIsApart, contains_head, own_address, least_of_none, least_unique, IsAddressSet, HoldSet, InBoth, common_blocks}
use Rattle.ipnetwork_sets.proofs.LeastBlocks.{common_is_least}
use Rattle.ipnetwork_sets.proofs.Lists.{set_block}
use Rattle.ipnetwork_sets.proofs.Steps.{tail_is_set, first_and_rest, same_list, union_cons, union_nil, union_behind, union_from, first_is_maximal, maximal_in_part}

-- ---- one of the two lists is empty

pub common_none_first : (w : ℕ) (second : List Network) → common_blocks w [] second ≡ []
common_none_first w second =
    least_unique w (InBoth w [] second) (common_blocks w [] second) [] (common_is_least w [] second)
    (least_of_none w (InBoth w [] second) (λ x s. union_nil w x s.0))

-- the intersection does not depend on the order of the two sets
common_swaps : (w : ℕ) (first second : List Network) → common_blocks w first second ≡ common_blocks w second first
common_swaps w first second =
    same_list w (InBoth w first second) (InBoth w second first) (common_blocks w first second)
    (common_blocks w second first) (common_is_least w first second) (common_is_least w second first)
    (λ x. ((λ s. (s.1, s.0)), (λ s. (s.1, s.0))))

pub common_none_second : (w : ℕ) (first : List Network) → common_blocks w first [] ≡ []
common_none_second w first = common_swaps w first [] ∙ common_none_first w first

module _ (w : ℕ) (a b : Network) (others rest : List Network) (apart : AggregateIsApart)
    (ha : IsAddressSet w (a ∷ others)) (hb : IsAddressSet w (b ∷ rest)) where
  -- ---- a block that ends before the other begins

  common_past_first : high w a < b.address → common_blocks w (a ∷ others) (b ∷ rest) ≡ common_blocks w others (b ∷ rest)
  common_past_first l =
      same_list w (InBoth w (a ∷ others) (b ∷ rest)) (InBoth w others (b ∷ rest))
      (common_blocks w (a ∷ others) (b ∷ rest)) (common_blocks w others (b ∷ rest))
      (common_is_least w (a ∷ others) (b ∷ rest)) (common_is_least w others (b ∷ rest))
      (λ x. (
        (λ s. ⊎_elim
            (λ (m : Member w a x).
            let i = within_member w a x m in
            let from = union_from w b rest apart hb x s.1 in
            let r : InBoth w others (b ∷ rest) x = absurd (omega (arith, i.1)) in r)
            (λ (c : InUnion w others x). (c, s.1))
            ((union_cons w a others x).0 s.0)),
        (λ s. ((union_cons w a others x).1 (inr s.0), s.1)),
      ))

  -- ---- a block that lies in the other

  common_gives_first : Subnet w a b → common_blocks w (a ∷ others) (b ∷ rest) ≡ a ∷ common_blocks w others (b ∷ rest)
  common_gives_first sub =
      let inside : LiesIn w (InBoth w (a ∷ others) (b ∷ rest)) a =
      λ x m. ((union_cons w a others x).1 (inl m), (union_cons w b rest x).1 (inl (sub x m))) in
      first_and_rest w (InBoth w (a ∷ others) (b ∷ rest)) (InBoth w others (b ∷ rest)) a
      (common_blocks w (a ∷ others) (b ∷ rest)) (common_blocks w others (b ∷ rest))
      (common_is_least w (a ∷ others) (b ∷ rest))
      (maximal_in_part w (InUnion w (a ∷ others)) (InBoth w (a ∷ others) (b ∷ rest)) a (first_is_maximal w a others ha)
      (λ x s. s.0) inside)
      (λ x. (
        (λ s. ⊎_elim (λ (m : Member w a x). inl m) (λ (c : InUnion w others x). inr (c, s.1))
            ((union_cons w a others x).0 s.0)),
        (λ o. ⊎_elim (λ (m : Member w a x). inside x m)
            (λ (s : InBoth w others (b ∷ rest) x). ((union_cons w a others x).1 (inr s.0), s.1)) o),
      ))
      (λ x s. union_behind w a others apart ha x s.0)
      (common_is_least w others (b ∷ rest))

-- ---- the steps, for lists given by their first block and the others

module _ (w : ℕ) (a b : Network) (first second others rest : List Network) (apart : AggregateIsApart)
    (e : first ≡ a ∷ others) (f : second ≡ b ∷ rest)
    (hf : IsAddressSet w first) (hs : IsAddressSet w second) where
  ha : IsAddressSet w (a ∷ others)
  ha = subst (λ (t : List Network). IsAddressSet w t) e hf

  hb : IsAddressSet w (b ∷ rest)
  hb = subst (λ (t : List Network). IsAddressSet w t) f hs

  both : common_blocks w first second ≡ common_blocks w (a ∷ others) (b ∷ rest)
  both = ap (λ t. common_blocks w t second) e ∙ ap (λ t. common_blocks w (a ∷ others) t) f

  others_are_set : IsAddressSet w others
  others_are_set = tail_is_set w a others apart ha

  past_first : high w a < b.address
      → IsAddressSet w others × (common_blocks w first second ≡ common_blocks w others second)
  past_first l = (
    others_are_set,
    both ∙ common_past_first w a b others rest apart ha hb l
        ∙ ap (λ t. common_blocks w others t) (sym f),
  )

  pub gives_first : Overlap w a b → b.prefix ≤ a.prefix
      → IsAddressSet w others × (common_blocks w first second ≡ a ∷ common_blocks w others second)
  gives_first o le =
      let ba : IsCidrBlock w a = set_block w (a ∷ others) a ha (contains_head a others) in
      let bb : IsCidrBlock w b = set_block w (b ∷ rest) b hb (contains_head b rest) in (
        others_are_set,
        both ∙ common_gives_first w a b others rest apart ha hb
            (subnet_from w a b ba.network le (shares_address w a b o.0 le ba.network bb.network o.1 o.2))
            ∙ ap (λ t. a ∷ common_blocks w others t) (sym f),
      )

  -- of two blocks without a common address, the one that begins first ends before the other begins
  pub ends_first : (Overlap w a b → ⊥) → a.address ≤ b.address → high w a < b.address
  ends_first apart_too le =
      let ba : IsCidrBlock w a = set_block w (a ∷ others) a ha (contains_head a others) in
      let bb : IsCidrBlock w b = set_block w (b ∷ rest) b hb (contains_head b rest) in
      ⊎_elim (λ (l : high w a < b.address). l)
      (λ (at : b.address ≤ high w a).
      let pos = size_pos w a.prefix in
      let block = ba.block in
      let m : Member w a b.address = member_within w a ba.network b.address (omega arith) (omega arith) in
      let r : high w a < b.address = absurd (apart_too (b.address, m, own_address w b bb.network)) in r)
      (cases_lt (high w a) b.address)

-- the steps with the two lists exchanged

module _ (w : ℕ) (a b : Network) (first second others rest : List Network) (apart : AggregateIsApart)
    (e : first ≡ a ∷ others) (f : second ≡ b ∷ rest)
    (hf : IsAddressSet w first) (hs : IsAddressSet w second) where
  past_second : high w b < a.address
      → IsAddressSet w rest × (common_blocks w first second ≡ common_blocks w first rest)
  past_second l = let past = past_first w b a second first rest others apart f e hs hf l in
      (past.0, common_swaps w first second ∙ past.1 ∙ common_swaps w rest first)

  pub gives_second : Overlap w a b → a.prefix ≤ b.prefix
      → IsAddressSet w rest × (common_blocks w first second ≡ b ∷ common_blocks w first rest)
  gives_second o le =
      let gives = gives_first w b a second first rest others apart f e hs hf (o.0, o.2, o.1) le in
      (gives.0, common_swaps w first second ∙ gives.1 ∙ ap (λ t. b ∷ t) (common_swaps w rest first))

  -- two blocks without a common address: the one that begins first is passed
  pub passes : (Overlap w a b → ⊥) → (before : Bool) → (IsTrue before ↔ a.address < b.address)
      → IsAddressSet w (drop (from_bool before) first) × IsAddressSet w (drop (from_bool (not before)) second)
      × (common_blocks w first second
      ≡ common_blocks w (drop (from_bool before) first) (drop (from_bool (not before)) second))
  passes apart_too true says =
      let past = past_first w a b first second others rest apart e f hf hs
      (ends_first w a b first second others rest apart e f hf hs apart_too (omega (arith, says.0 refl))) in
      let left : drop 1 first ≡ others = ap (λ (t : List Network). drop 1 t) e in (
        subst (λ (t : List Network). IsAddressSet w t) (sym left) past.0,
        hs,
        past.1 ∙ ap (λ t. common_blocks w t second) (sym left),
      )
  passes apart_too false says =
      let not_before : b.address ≤ a.address = ⊎_elim
      (λ (l : a.address < b.address).
      let r : b.address ≤ a.address = absurd (true≢false (sym (says.1 l))) in r)
      (λ (le : b.address ≤ a.address). le) (cases_lt a.address b.address) in
      let past = past_second (ends_first w b a second first rest others apart f e hs hf
      (λ o. apart_too (o.0, o.2, o.1)) not_before) in
      let left : drop 1 second ≡ rest = ap (λ (t : List Network). drop 1 t) f in (
        hf,
        subst (λ (t : List Network). IsAddressSet w t) (sym left) past.0,
        past.1 ∙ ap (common_blocks w first) (sym left),
      )

-- the same for lists of values that hold the blocks

pub skips : {H : Type 0} (holds : H → Type 0) (held : H → Network) (w : ℕ) (a b : Network) (first second : List H)
    (others rest : List Network) (before : Bool) (left right : List H) → AggregateIsApart
    → map held first ≡ a ∷ others → map held second ≡ b ∷ rest
    → HoldSet w holds held first → HoldSet w holds held second
    → (Overlap w a b → ⊥) → (IsTrue before ↔ a.address < b.address)
    → left ≡ drop (from_bool before) first → right ≡ drop (from_bool (not before)) second
    → HoldSet w holds held left × HoldSet w holds held right
    × (common_blocks w (map held first) (map held second) ≡ common_blocks w (map held left) (map held right))
skips {H} holds held w a b first second others rest before left right apart e f hf hs apart_too says l r =
    let passed = passes w a b (map held first) (map held second) others rest apart e f hf.1 hs.1 apart_too before says in
    let as_left : drop (from_bool before) (map held first) ≡ map held left =
    drop-map held (from_bool before) first ∙ ap (map held) (sym l) in
    let as_right : drop (from_bool (not before)) (map held second) ≡ map held right =
    drop-map held (from_bool (not before)) second ∙ ap (map held) (sym r) in (
      (
        subst (λ (t : List H). All holds t) (sym l) (All-drop holds (from_bool before) first hf.0),
        subst (λ (t : List Network). IsAddressSet w t) as_left passed.0,
      ),
      (
        subst (λ (t : List H). All holds t) (sym r) (All-drop holds (from_bool (not before)) second hs.0),
        subst (λ (t : List Network). IsAddressSet w t) as_right passed.1,
      ),
      passed.2 ∙ ap (λ t. common_blocks w t (drop (from_bool (not before)) (map held second))) as_left
          ∙ ap (common_blocks w (map held left)) as_right,
    )
