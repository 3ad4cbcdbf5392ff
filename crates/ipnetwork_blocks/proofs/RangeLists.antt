-- The blocks of a range are its least list.
use Rattle.ipnetwork_blocks.proofs.Words.{◌≡◌, ℕ, zero, suc, ◌+◌, ◌-◌, ◌^◌, ◌<◌, ◌≤◌, ◌⊎◌, inl, inr, sym, refl, ap, subst, ◌∙◌, arith, ⊎_elim, List, [], ◌∷◌, ◌++◌, length, Some, Bool, true, false, leb, ◌&&◌, cond, cases_lt, leb-true, le-leb, and_parts, pow_pos, MakesProgress, item_count, Network, IsNetwork, Member, low, high, block_at, Subnet, size_pos, has_ends, within_member, member_within, subnet_from, shares_address, nested, block_begins, block_at_network, block_at_holds, block_at_subnet, LiesIn, IsMaximalIn, IsLeastList, FromTo, blocks_within, blocks_from_to}
use Rattle.ipnetwork_blocks.proofs.BlocksFrom.{block_from, Begins, lower_begins, upper_begins}
use Rattle.ipnetwork_blocks.proofs.HalfParts.{PartOf, HasAll, whole_part, no_part, least_of_halves}
use Rattle.ipnetwork_blocks.proofs.LeastLists.{least_of_same, least_unique, least_of_none, least_of_one, least_of_two}

-- ---- the list, by repeated halving

pub cond_by : {X : Type 0} (P : X → Type 0) (t : Bool) (x y : X) → (t ≡ true → P x) → (t ≡ false → P y) → P (cond t x y)
cond_by P true x y f g = f refl
cond_by P false x y f g = g refl

not_both : (a b c d : ℕ) → leb a b && leb c d ≡ false → a ≤ b → c ≤ d → ⊥
not_both a b c d e h k = let t : leb a b && leb c d ≡ true = ap (λ x. x && leb c d) (le-leb a b h) ∙ le-leb c d k in cc

-- not every address of a block lies in the range
not_all : (k base first last : ℕ) → leb first base && leb (base + 2 ^ k) (last + 1) ≡ false
    → ¬ (HasAll (FromTo first last) k base)
not_all k base first last t all =
    let pos = pow_pos k in
    let a = all base (omega arith) (omega arith) in
    let b = all (base + 2 ^ k - 1) (omega arith) (omega arith) in
    not_both first base (base + 2 ^ k) (last + 1) t a.0 (omega (arith, b.1))

-- every address of a block lies in the range
whole_lies : (w k base first last : ℕ) → Begins w k base → leb first base && leb (base + 2 ^ k) (last + 1) ≡ true
    → IsLeastList w (PartOf (FromTo first last) k base) (block_from w k base ∷ [])
whole_lies w k base first last h t =
    let both = and_parts (leb first base) (leb (base + 2 ^ k) (last + 1)) t in
    let from : first ≤ base = leb-true first base both.0 in
    let to : base + 2 ^ k ≤ last + 1 = leb-true (base + 2 ^ k) (last + 1) both.1 in
    whole_part (FromTo first last) w k base h (λ x l m. (omega arith, omega arith))

pub least_within : (w k base first last : ℕ) → Begins w k base
    → IsLeastList w (PartOf (FromTo first last) k base) (blocks_within w k base first last)
unfolding blocks_within
least_within w zero base first last h =
    let none : w - 0 ≡ w = omega arith in
    cond_by (IsLeastList w (PartOf (FromTo first last) 0 base)) (leb first base && leb (base + 1) (last + 1))
    (record { address = base; prefix = w } ∷ []) []
    (λ t. subst (λ (p : ℕ). IsLeastList w (PartOf (FromTo first last) 0 base) (record { address = base; prefix = p }
    ∷ [])) none (whole_lies w 0 base first last h t))
    (λ t. no_part (FromTo first last) w base
    (λ f. not_all 0 base first last t (λ x l m. let is : base ≡ x = omega arith in subst (FromTo first last) is f)))
least_within w (suc k) base first last h =
    cond_by (IsLeastList w (PartOf (FromTo first last) (suc k) base))
    (leb first base && leb (base + 2 ^ suc k) (last + 1)) (block_from w (suc k) base ∷ [])
    (blocks_within w k base first last ++ blocks_within w k (base + 2 ^ k) first last)
    (λ t. whole_lies w (suc k) base first last h t)
    (λ t. least_of_halves (FromTo first last) w k base (blocks_within w k base first last)
    (blocks_within w k (base + 2 ^ k) first last) h (not_all (suc k) base first last t)
    (least_within w k base first last (lower_begins w k base h))
    (least_within w k (base + 2 ^ k) first last (upper_begins w k base h)))

pub least_from_to : (w first last : ℕ) → last < 2 ^ w → IsLeastList w (FromTo first last) (blocks_from_to w first last)
least_from_to w first last fits =
    least_of_same w (PartOf (FromTo first last) w 0) (FromTo first last) (blocks_from_to w first last)
    (λ x. ((λ p. p.0), (λ p. let l = p.1 in (p, (omega arith, omega arith)))))
    (least_within w w 0 first last
    (record { times = 0; multiple = omega arith; bits = omega arith; fits = omega arith }))

-- a range whose first address comes after its last has no blocks
pub least_from_after : (w first last : ℕ) → last < first → IsLeastList w (FromTo first last) []
least_from_after w first last after =
    least_of_none w (FromTo first last) (λ x p. let l = p.0 in let k = p.1 in omega arith)

-- ---- the first block, and the others

-- a network in the range lies in its first maximal block or after it
in_first_or_behind : (w first last : ℕ) (b : Network) → IsMaximalIn w (FromTo first last) b → b.address ≡ first
    → (n : Network) → IsNetwork w n → LiesIn w (FromTo first last) n
    → LiesIn w (Member w b) n ⊎ LiesIn w (FromTo (high w b + 1) last) n
in_first_or_behind w first last b m e n nn lies =
    let ends = has_ends w n nn in
    let begin = lies (low w n) ends.low_is_member in
    let from = begin.0 in
    let block = m.block in
    let pos = size_pos w b.prefix in
    ⊎_elim
    (λ (l : low w n < high w b + 1).
    let shared : Member w b (low w n) = member_within w b m.network (low w n) (omega arith) (omega arith) in
    inl (⊎_elim
    (λ (s : Subnet w n b). s)
    (λ (s : Subnet w b n). ⊎_elim
    (λ (wide : n.prefix < b.prefix). let r : Subnet w n b = absurd (m.maximal n nn wide s lies) in r)
    (λ (le : b.prefix ≤ n.prefix).
    subnet_from w n b nn le (shares_address w n b (low w n) le nn m.network ends.low_is_member shared))
    (cases_lt n.prefix b.prefix))
    (nested w n b nn m.network (low w n, ends.low_is_member, shared))))
    (λ (le : high w b + 1 ≤ low w n). inr (λ x k. let i = within_member w n x k in let f = lies x k in let c = i.0 in
    (omega arith, f.1)))
    (cases_lt (low w n) (high w b + 1))

pub least_after_first : (w first last : ℕ) (b : Network) (rest : List Network) → IsMaximalIn w (FromTo first last) b
    → b.address ≡ first
    → IsLeastList w (FromTo (high w b + 1) last) rest → IsLeastList w (FromTo first last) (b ∷ rest)
least_after_first w first last b rest m e h =
    let block = m.block in
    let pos = size_pos w b.prefix in
    least_of_two w (FromTo first last) (Member w b) (FromTo (high w b + 1) last) (b ∷ []) rest
    (λ x. (
      (λ p.
          let from = p.0 in
          let to = p.1 in
          ⊎_elim
          (λ (l : x < high w b + 1). inl (member_within w b m.network x (omega arith) (omega arith)))
          (λ (l : high w b + 1 ≤ x). inr (l, to))
          (cases_lt x (high w b + 1))),
      (λ o. ⊎_elim
          (λ (k : Member w b x). m.lies x k)
          (λ (p : FromTo (high w b + 1) last x). let from = p.0 in (omega arith, p.1))
          o),
    ))
    (λ x y k p. let i = within_member w b x k in let to = i.1 in let from = p.0 in omega arith)
    (in_first_or_behind w first last b m e)
    (least_of_one w b m.network m.block)
    h

-- ---- a step of the iterator

pub not_before : (a b : ℕ) → (a < b → ⊥) → b ≤ a
not_before a b fails = ⊎_elim (λ (l : a < b). let r : b ≤ a = absurd (fails l) in r) (λ (le : b ≤ a). le) (cases_lt a b)

-- the first block ends at the end of the range
pub ends_at_last : (w first last : ℕ) (done : Bool) (b : Network) (left : List Network) → done ≡ false → last < 2 ^ w
    → IsMaximalIn w (FromTo first last) b
    → b.address ≡ first → last ≤ high w b → left ≡ [] → cond done [] (blocks_from_to w first last) ≡ b ∷ left
ends_at_last w first last done b left more fits m e ends none =
    let one : blocks_from_to w first last ≡ b ∷ [] =
    least_unique w (FromTo first last) (blocks_from_to w first last) (b ∷ []) (least_from_to w first last fits)
    (least_after_first w first last b [] m e
    (least_of_none w (FromTo (high w b + 1) last) (λ x p. let l = p.0 in let k = p.1 in omega arith))) in
    ap (λ t. cond t [] (blocks_from_to w first last)) more ∙ one ∙ ap (λ r. b ∷ r) (sym none)

-- the first block ends before the end of the range
pub goes_on : (w first last next : ℕ) (done : Bool) (b : Network) (left : List Network) → done ≡ false → last < 2 ^ w
    → IsMaximalIn w (FromTo first last) b
    → b.address ≡ first → next ≡ high w b + 1 → left ≡ cond done [] (blocks_from_to w next last)
    → cond done [] (blocks_from_to w first last) ≡ b ∷ left
goes_on w first last next done b left more fits m e at rest =
    let behind : IsLeastList w (FromTo (high w b + 1) last) (blocks_from_to w next last) =
    subst (λ (k : ℕ). IsLeastList w (FromTo k last) (blocks_from_to w next last)) at (least_from_to w next last fits) in
    let both : blocks_from_to w first last ≡ b ∷ blocks_from_to w next last =
    least_unique w (FromTo first last) (blocks_from_to w first last) (b ∷ blocks_from_to w next last)
    (least_from_to w first last fits)
    (least_after_first w first last b (blocks_from_to w next last) m e behind) in
    ap (λ t. cond t [] (blocks_from_to w first last)) more ∙ both
    ∙ ap (λ r. b ∷ r) (sym (rest ∙ ap (λ t. cond t [] (blocks_from_to w next last)) more))

-- the list gets one item shorter
pub list_falls : {X : Type 0} (s t : List Network) (b : Network) (x : X) → s ≡ b ∷ t
    → MakesProgress (λ _. Unit {0}) (item_count (λ left. left)) s (Some x) t
list_falls s t b x e =
    let l : length s ≡ suc (length t) = ap length e in
    record { on = λ _. (tt, tt, omega (arith, l)); keeps = tt; rests = λ _. tt }

-- ---- the widest block

pub widest_is_maximal : (w first last p : ℕ) → first < 2 ^ w → p ≤ w → first ≤ low w (block_at w first p)
    → high w (block_at w first p) ≤ last
    → ((0 < p) → (first ≤ low w (block_at w first (p - 1))) × (high w (block_at w first (p - 1)) ≤ last) → ⊥)
    → IsMaximalIn w (FromTo first last) (block_at w first p)
widest_is_maximal w first last p fits h from to wider =
    let n : Network = block_at w first p in
    let nn : IsNetwork w n = (block_at_network w first p fits h).network in
    record {
      network = nn;
      block = block_begins w (record { address = first; prefix = p });
      lies = λ x m. let i = (has_ends w n nn).within x m in let a = i.0 in let b = i.1 in (omega arith, omega arith);
      maximal = λ c cn lt sub lies.
          let d : Network = block_at w first (p - 1) in
          let dn : IsNetwork w d = (block_at_network w first (p - 1) fits (omega arith)).network in
          let inside : Subnet w d c = block_at_subnet w first (p - 1) c (omega arith) (omega arith)
          (sub first (block_at_holds w first p fits)) in
          let ends = has_ends w d dn in
          let a = lies (low w d) (inside (low w d) ends.low_is_member) in
          let b = lies (high w d) (inside (high w d) ends.high_is_member) in
          wider (omega arith) (a.0, b.1);
    }
