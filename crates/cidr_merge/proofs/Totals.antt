-- The numbers of blocks and addresses.
use Rattle.cidr_merge.proofs.Words.{◌≡◌, ◌≢◌, ◌↔◌, ◌<◌, ◌≤◌, ◌+◌, ◌-◌, ◌^◌, ◌++◌, ◌∷◌, ℕ, List, ◌∙◌, refl, sym, ap, subst, arith, length, min, decimal, ⊎_elim, min-eq_left, min-eq_right, pow_mono, cases_lt, le-ltb, lt-ltb, nat_lt, Network, block_size, InUnion, IsLeastList, least_of_same, SetHasFewerBlocks, HasCount, total, InFirstAlone, IsLeft, IsCount, AddUp, Operation}
use Rattle.std.proofs.Common.{codes}
use Rattle.cidr_merge.specs.declared.command_line.Operation.TheVariants as operations

-- the least list of a set is that of its own union, which has fewer blocks than addresses
adds_up : (w : ℕ) (set : ℕ → Type 0) (blocks : List Network) → IsLeastList w set blocks
    → ((x : ℕ) → InUnion w blocks x ↔ set x) → SetHasFewerBlocks
    → HasCount set (total w blocks) → total w blocks ≤ 2 ^ w → AddUp w set blocks
adds_up w set blocks h same fewer count within = record {
  addresses = same;
  count = count;
  within = within;
  fewer = λ bits. fewer w blocks bits (least_of_same w set (InUnion w blocks) blocks
      (λ x. ((same x).1, (same x).0)) h);
}

-- the result of an operation, where the operation and the blocks have other names
pub left_by : (operation other : Operation) → operation ≡ other
    → (w : ℕ) (first second left blocks : List Network) → left ≡ blocks
    → IsLeastList w (IsLeft other w first second) blocks
    → ((x : ℕ) → InUnion w blocks x ↔ IsLeft other w first second x) → SetHasFewerBlocks
    → HasCount (IsLeft other w first second) (total w blocks) → total w blocks ≤ 2 ^ w
    → IsLeastList w (IsLeft operation w first second) left
    × AddUp w (IsLeft operation w first second) left
left_by operation other e w first second left blocks is h same fewer count within =
    subst (λ (o : Operation). IsLeastList w (IsLeft o w first second) left
    × AddUp w (IsLeft o w first second) left) (sym e)
    (subst (λ (l : List Network). IsLeastList w (IsLeft other w first second) l
    × AddUp w (IsLeft other w first second) l) (sym is)
    (h, adds_up w (IsLeft other w first second) blocks h same fewer count within))

-- the result of the other operations has the addresses that are only in the first side
pub alone_by : (operation : Operation) → operation ≢ operations.Union
    → operation ≢ operations.Common
    → (w : ℕ) (first second left blocks : List Network) → left ≡ blocks
    → IsLeastList w (InFirstAlone w first second) blocks
    → ((x : ℕ) → InUnion w blocks x ↔ InFirstAlone w first second x) → SetHasFewerBlocks
    → HasCount (InFirstAlone w first second) (total w blocks) → total w blocks ≤ 2 ^ w
    → IsLeastList w (IsLeft operation w first second) left
    × AddUp w (IsLeft operation w first second) left
alone_by operations.Union u c w first second left blocks is h same fewer count within =
    absurd (u refl)
alone_by operations.Common u c w first second left blocks is h same fewer count within =
    absurd (c refl)
alone_by operations.Minus u c w first second left blocks is h same fewer count within =
    left_by operations.Minus operations.Minus refl w first second left blocks is h same fewer count
    within
alone_by operations.Differ u c w first second left blocks is h same fewer count within =
    left_by operations.Differ operations.Differ refl w first second left blocks is h same fewer
    count within

-- ---- sums with an upper limit

-- the count and what is left have the same sum after one more block
pub counted_on : (count next size left whole cap : ℕ) → next ≡ min (count + size) cap
    → min (count + (size + left)) cap ≡ min whole cap → min (next + left) cap ≡ min whole cap
counted_on count next size left whole cap e f =
    ⊎_elim
    (λ (l : count + size < cap).
    let is : next ≡ count + size = e ∙ min-eq_left (omega (arith, l)) in
    let sum : next + left ≡ count + (size + left) = omega (arith, is) in
    ap (λ k. min k cap) sum ∙ f)
    (λ (l : cap ≤ count + size).
    let is : next ≡ cap = e ∙ min-eq_right l in
    let over : cap ≤ next + left = omega (arith, is) in
    let more : cap ≤ count + (size + left) = omega (arith, l) in
    min-eq_right over ∙ sym (min-eq_right more) ∙ f)
    (cases_lt (count + size) cap)

-- the same, for the number of addresses
pub totalled_on : (w count next cap : ℕ) (block : Network) (before after : List Network) (whole : ℕ)
    → before ≡ block ∷ after → next ≡ min (count + block_size w block.prefix) cap
    → min (count + total w before) cap ≡ min whole cap
    → min (next + total w after) cap ≡ min whole cap
totalled_on w count next cap block before after whole e f h =
    counted_on count next (block_size w block.prefix) (total w after) whole cap f
    (subst (λ l. min (count + total w l) cap ≡ min whole cap) e h)

-- the same, for the number of blocks
pub listed_on : (count next cap : ℕ) (block : Network) (before after : List Network) (whole : ℕ)
    → before ≡ block ∷ after → next ≡ min (count + 1) cap
    → min (count + length before) cap ≡ min whole cap
    → min (next + length after) cap ≡ min whole cap
listed_on count next cap block before after whole e f h =
    let sum : count + length before ≡ count + (1 + length after) =
    ap (λ n. count + n) (ap length e ∙ omega arith) in
    counted_on count next 1 (length after) whole cap f (subst
    (λ n. min n cap ≡ min whole cap) sum h)

pub kept_within : (next sum cap : ℕ) → next ≡ min sum cap → next ≤ cap
kept_within next sum cap e = omega (arith, e)

-- nothing is left, so the count is the whole sum
pub at_end : (count left whole cap : ℕ) → left ≡ 0 → count ≤ cap
    → min (count + left) cap ≡ min whole cap → count ≡ min whole cap
at_end count left whole cap e le h =
    let sum : count + left ≡ count = omega (arith, e) in
    sym (min-eq_left le) ∙ ap (λ n. min n cap) (sym sum) ∙ h

-- ---- the counts

-- the count with an upper limit is the true one if that is within the limit
pub count_is : (w : ℕ) (counts : List ℕ) (set : ℕ → Type 0) (blocks : List Network)
    (count addresses : ℕ) → IsLeastList w set blocks → AddUp w set blocks → 1 ≤ w → w ≤ 128
    → count ≡ min (length blocks) (2 ^ 128 - 1) → addresses ≡ min (total w blocks) (2 ^ 128)
    → counts ≡ decimal count ++ codes " " ++ decimal addresses → IsCount w set counts
count_is w counts set blocks count addresses h sum some bits e f g =
    let small : 2 ^ w ≤ 2 ^ 128 = pow_mono bits in
    let fewer = sum.fewer some in
    let within = sum.within in
    let all : count ≡ length blocks = e ∙ min-eq_left (omega (arith, small, fewer)) in
    let every : addresses ≡ total w blocks = f ∙ min-eq_left (omega (arith, small, within)) in (
      blocks,
      total w blocks,
      h,
      sum.count,
      g ∙ ap (λ n. decimal n ++ codes " " ++ decimal addresses) all
          ∙ ap (λ n. decimal (length blocks) ++ codes " " ++ decimal n) every,
    )

-- so many addresses are in the set
pub counted_are : (w : ℕ) (set : ℕ → Type 0) (blocks : List Network) (addresses : ℕ) → AddUp w set blocks → w ≤ 128
    → addresses ≡ min (total w blocks) (2 ^ 128) → HasCount set addresses
counted_are w set blocks addresses sum bits f =
    let small : 2 ^ w ≤ 2 ^ 128 = pow_mono bits in
    let within = sum.within in
    let every : addresses ≡ total w blocks = f ∙ min-eq_left (omega (arith, small, within)) in
    subst (λ (n : ℕ). HasCount set n) (sym every) sum.count

-- networks are lacking if there are fewer than wanted
pub lacks_some : (least networks lacking : ℕ) → lacking ≡ least - networks → nat_lt 0 lacking ≡ nat_lt networks least
lacks_some least networks lacking e =
    ⊎_elim
    (λ (l : networks < least).
    lt-ltb 0 lacking (omega (arith, e, l)) ∙ sym (lt-ltb networks least l))
    (λ (l : least ≤ networks).
    le-ltb 0 lacking (omega (arith, e, l)) ∙ sym (le-ltb networks least l))
    (cases_lt networks least)
