-- What is printed for a line, put together.
use Rattle.cidr_join.proofs.Words.{◌≡◌, ℕ, ◌≤◌, Bool, true, false, List, [], ◌∷◌, ◌++◌, length, drop, refl, sym, ap, ◌∙◌, arith, append_assoc, true≢false, zero, suc, take, ◌-◌, take_rest, shown_of}

drop_within : (text more : List ℕ) (count : ℕ) → count ≤ length text
    → drop count (text ++ more) ≡ drop count text ++ more
drop_within text more zero few = refl
drop_within [] more (suc count) few = absurd (omega (arith, few))
drop_within (byte ∷ text) more (suc count) few = drop_within text more count (omega (arith, few))

-- the bytes that end a line
abbrev pub tail_of : List ℕ → List ℕ → List ℕ
tail_of line whole = take (length whole - length line) (drop (length line) whole)

pub behind_line : (last : Bool) (mark line whole feed : List ℕ) → last ≡ true → length line ≤ length whole
    → (line ++ 9 ∷ []) ++ ((mark ++ tail_of line whole) ++ feed) ≡ shown_of last mark line (whole ++ feed)
behind_line true mark line whole feed is within =
    ap (λ r. (line ++ 9 ∷ []) ++ ((mark ++ r) ++ feed)) (take_rest whole (length line))
    ∙ append_assoc line (9 ∷ []) ((mark ++ drop (length line) whole) ++ feed)
    ∙ ap (λ t. line ++ 9 ∷ t) (append_assoc mark (drop (length line) whole) feed
    ∙ ap (λ t. mark ++ t) (sym (drop_within whole feed (length line) within)))
behind_line false mark line whole feed is within = absurd (true≢false (sym is))

pub before_line : (last : Bool) (mark line whole feed : List ℕ) → last ≡ false
    → (mark ++ 9 ∷ []) ++ (whole ++ feed) ≡ shown_of last mark line (whole ++ feed)
before_line true mark line whole feed is = absurd (true≢false is)
before_line false mark line whole feed is = append_assoc mark (9 ∷ []) (whole ++ feed)
