-- The parts of a line.
use Rattle.line_addresses.proofs.Words.{◌≡◌, ℕ, zero, suc, ◌+◌, ◌-◌, ◌<◌, ◌==◌, List, [], ◌∷◌, ◌++◌, length, take, drop, None, refl, ap, ◌∙◌, arith, eq-eqb, drop-drop, slice_split, IsAbsent, IsNext, split_at, split_none, split_text, none_behind, first_behind, slice_get}

-- the rest of a text from an index on: what comes before the next byte of this value, that byte, and what follows it
pub rest_from : (byte : ℕ) (text : List ℕ) (from at : ℕ) → IsNext byte text from at
    → drop from text ≡ take (at - from) (drop from text) ++ byte ∷ drop (at + 1) text
rest_from byte text from at next =
    let rest = drop from text in
    let behind : from + (at - from + 1) ≡ at + 1 = omega (arith, next.behind) in
    split_text byte rest (at - from) (first_behind byte text from at next)
    ∙ ap (λ t. take (at - from) rest ++ byte ∷ t) (drop-drop (at - from + 1) from text ∙ ap (λ n. drop n text) behind)

-- the first part from an index on, and the parts after it
pub parts_from : (byte : ℕ) (text : List ℕ) (from at : ℕ) → IsNext byte text from at
    → slice_split (λ b. b == byte) (drop from text) ≡ take (at - from) (drop from text)
    ∷ slice_split (λ b. b == byte) (drop (at + 1) text)
parts_from byte text from at next =
    ap (slice_split (λ b. b == byte)) (rest_from byte text from at next)
    ∙ split_at byte (take (at - from) (drop from text)) (drop (at + 1) text) (eq-eqb byte byte refl)
    (first_behind byte text from at next).before

pub part_from : (byte : ℕ) (text : List ℕ) (from : ℕ) → IsAbsent byte text from (length text)
    → slice_split (λ b. b == byte) (drop from text) ≡ drop from text ∷ []
part_from byte text from absent = split_none byte (drop from text) (none_behind byte text from absent)

-- one part fewer
pub one_part_less : (more : ℕ) (part : List ℕ) (parts : List (List ℕ)) → 0 < more
    → slice_get (part ∷ parts) more ≡ slice_get parts (more - 1)
one_part_less zero part parts some = absurd (omega (arith, some))
one_part_less (suc more) part parts some = ap (slice_get parts) (omega arith)

pub no_more_parts : (more : ℕ) (part : List ℕ) → 0 < more → slice_get (part ∷ []) more ≡ None
no_more_parts zero part some = absurd (omega (arith, some))
no_more_parts (suc more) part some = refl
