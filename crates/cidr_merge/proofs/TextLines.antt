-- The first line of a text.
use Rattle.cidr_merge.proofs.Words.{◌≡◌, ℕ, ◌+◌, ◌-◌, ◌<◌, List, [], ◌∷◌, length, take, drop, ap, subst, ◌∙◌, arith, lines, strip_carriage_return, drop-length, take_rest, IsAbsent, IsNext, IsFirst, split_text, none_behind, first_behind, last_line, lines_line, lines_last}

pub line_before : (text : List ℕ) (at : ℕ) → IsNext 10 text 0 at
    → lines text ≡ strip_carriage_return (take at text) ∷ lines (drop (at + 1) text)
line_before text at next =
    let from : at - 0 ≡ at = omega arith in
    let first =
    subst (λ (place : ℕ). IsFirst 10 text place) from (first_behind 10 text 0 at next) in
    ap lines (split_text 10 text at first) ∙ lines_line (take at text)
    (drop (at + 1) text) first.before

pub last_alone : (text : List ℕ) → 0 < length text → IsAbsent 10 text 0 (length text)
    → lines text ≡ text ∷ []
unfolding last_line
last_alone [] some absent = absurd (omega (arith, some))
last_alone (byte ∷ text) some absent =
    lines_last (byte ∷ text) (none_behind 10 (byte ∷ text) 0 absent)

-- nothing is left of a text after its end
pub none_left : (text : List ℕ)
    → lines (take (length text - length text) (drop (length text) text)) ≡ []
none_left text = ap lines (take_rest text (length text) ∙ drop-length text)
