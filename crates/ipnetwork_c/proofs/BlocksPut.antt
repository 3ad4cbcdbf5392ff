-- Blocks put into a list, one after the other.
use Rattle.ipnetwork_c.proofs.Words.{◌≡◌, ℕ, ◌+◌, ◌-◌, ◌^◌, ◌<◌, ◌≤◌, List, [], ◌∷◌, ◌++◌, length, map, drop, get_or, slice_set, refl, sym, subst, ap, ◌∙◌, arith, add-one, append_assoc, drop-cons, min-le_left, min-eq_left, set-append_seam, length-map, length-append, length-set, map-append, YieldsFirstBy, items_from_drains, YieldsList-from_first, Network, IsLeastList, least_unique, PutsBlocks, On, Nothing, HasBlocks, PutsItems}
use Rattle.std.proofs.Common.{min}

-- ---- blocks at the front of a list

pub nothing_put : {C : Type 0} (held : C → Network) (list : List C) → HasBlocks held [] list list 0
nothing_put held list = record {
  counted = refl;
  rows = refl;
  front = λ room. record { front = []; blocks_are = refl; list = refl };
}

one_more : (blocks : List Network) (n : Network) → length (blocks ++ n ∷ []) ≡ length blocks + 1
one_more blocks n = length-append blocks (n ∷ [])

counts_on : (blocks : List Network) (n : Network) (count next : ℕ) → count ≡ min (length blocks) (2 ^ 128 - 1)
    → next ≡ min (count + 1) (2 ^ 128 - 1) → next ≡ min (length (blocks ++ n ∷ [])) (2 ^ 128 - 1)
counts_on blocks n count next is told = let more = one_more blocks n in omega (arith, is, told, more)

-- there is room for one more block
pub block_put : {C : Type 0} (held : C → Network) (blocks : List Network) (before list : List C) (count next : ℕ)
    (c : C) (n : Network) → HasBlocks held blocks before list count → count < length list → length list < 2 ^ 64
    → held c ≡ n → next ≡ min (count + 1) (2 ^ 128 - 1)
    → HasBlocks held (blocks ++ n ∷ []) before (slice_set list count c) next
block_put {C} held blocks before list count next c n h room few is told =
    let rows = h.rows in
    let counted = h.counted in
    let size : count ≡ length blocks = omega (arith, counted, room, few) in
    record {
      counted = counts_on blocks n count next counted told;
      rows = length-set list count c ∙ rows;
      front = λ fits.
          let more = one_more blocks n in
          let f = h.front (omega arith) in
          let xs : List C = f.front in
          let long : length xs ≡ length blocks = sym (length-map xs held) ∙ ap length f.blocks_are in
          let k : ℕ = length blocks in
          let behind : List C = drop (k + 1) before in
          let rest : drop k before ≡ get_or before k c ∷ behind = drop-cons before k c (omega arith)
          ∙ ap (λ j. get_or before k c ∷ drop j before) (sym (add-one k)) in
          record {
            front = xs ++ c ∷ [];
            blocks_are = map-append held xs (c ∷ []) ∙ ap (λ ns. ns ++ held c ∷ []) f.blocks_are
                ∙ ap (λ m. blocks ++ m ∷ []) is;
            list = ap (λ l. slice_set l count c) (f.list ∙ ap (λ r. xs ++ r) rest)
                ∙ ap (λ j. slice_set (xs ++ get_or before k c ∷ behind) j c) (size ∙ sym long)
                ∙ set-append_seam xs (get_or before k c) behind c
                ∙ sym (append_assoc xs (c ∷ []) behind)
                ∙ ap (λ j. (xs ++ c ∷ []) ++ drop j before) (sym (one_more blocks n));
          };
    }

-- an iterator over blocks yields the blocks of its list
pub given : {N C : Type 0} (pair : N → Network) (held : C → Network) (blocks : List Network)
    (before after : List C) (count : ℕ)
    → PutsItems (YieldsFirstBy pair (λ (left : List Network). left)) pair held blocks before after count
    → HasBlocks held blocks before after count
given pair held blocks before after count h =
    let drains = h.1 in
    let all : map pair h.0 ≡ blocks = items_from_drains h.0 (drains.1.0, drains.1.1, λ _. (drains.0, drains.1.2))
    (YieldsList-from_first pair (λ l. l) blocks refl) in
    subst (λ (l : List Network). HasBlocks held l before after count) all h.2

-- ---- what the caller gets

-- there are more than the list has room for
pub too_many : {C : Type 0} (w : ℕ) (held : C → Network) (S : ℕ → Type 0) (before : List C) (blocks : List Network)
    (told_before wanted told : ℕ) → IsLeastList w S blocks → wanted ≡ min (length blocks) (2 ^ 128 - 1)
    → length before < wanted → told ≡ min wanted (2 ^ 64 - 1)
    → PutsBlocks w held S (before, told_before) (before, told) 4
too_many w held S before blocks told_before wanted told least is more told_is =
    let most = min-le_left (length blocks) (2 ^ 128 - 1) in
    (blocks, least, (omega (arith, is, told_is), Nothing ((λ room. omega (arith, is, more, most, room)), refl) refl))

-- there is room for them, and they are put there
pub all_put : {C : Type 0} (w : ℕ) (held : C → Network) (S : ℕ → Type 0) (before after : List C) (counted blocks : List
    Network) (told_before wanted told again : ℕ) → IsLeastList w S counted → wanted ≡ min (length counted) (2 ^ 128 - 1)
    → wanted ≤ length before → length before < 2 ^ 64 → told ≡ min wanted (2 ^ 64 - 1) → IsLeastList w S blocks
    → HasBlocks held blocks before after again → PutsBlocks w held S (before, told_before) (after, told) 0
all_put w held S before after counted blocks told_before wanted told again least is room few told_is once has =
    let same : counted ≡ blocks = least_unique w S counted blocks least once in
    let long : length counted ≡ length blocks = ap length same in
    let exact : wanted ≡ length counted = omega (arith, is, room, few) in
    let small : wanted ≤ 2 ^ 64 - 1 = omega (arith, room, few) in
    let fits : length blocks ≤ length before = omega (arith, exact, long, room) in
    let kept : told ≡ min (length blocks) (2 ^ 64 - 1) = omega (arith, is, told_is, long) in
    (blocks, once, (kept, On (fits, (refl, (told_is ∙ min-eq_left small ∙ exact ∙ long, has.front fits)))))
