-- The lines of a log, from the front.
use Rattle.program.proofs.Words.{◌≡◌, ℕ, ◌<◌, ◌==◌, true, false, not, cond, List, [], ◌∷◌, ◌++◌, length, refl, ap, ◌∙◌, arith, slice_split, list_all, ne_eqb, HasNo, split_at, split_none, split_cons, lines_in, log_lines, ended, unended}

parts_cons : (a b : List ℕ) → lines_in (a ∷ slice_split (λ x. x == 10) b) ≡ ended a
    ∷ lines_in (slice_split (λ x. x == 10) b)
parts_cons a b = let e = (split_cons 10 b).2 in rw e refl

-- a line, and the lines after it
pub lines_line : (a b : List ℕ) → HasNo 10 a → log_lines (a ++ 10 ∷ b) ≡ ended a ∷ log_lines b
lines_line a b h = ap lines_in (split_at 10 a b refl h) ∙ parts_cons a b

-- the last line, which no line feed ends
pub lines_last : (a : List ℕ) → HasNo 10 a → (length a == 0) ≡ false → log_lines a ≡ unended a ∷ []
lines_last a h some = ap lines_in (split_none 10 a h) ∙ ap (λ v. cond v [] (unended a ∷ [])) some

pub some_bytes : (p : List ℕ) → 1048577 < length p → (length p == 0) ≡ false
some_bytes p long = ne_eqb (length p) 0 (λ none. omega (arith, none, long))

-- the lines of bytes that no line feed is among are none, or one that is not ended
pub rest_unended : (a : List ℕ) → HasNo 10 a → list_all (λ line. not line.is_ended) (log_lines a) ≡ true
rest_unended [] h = refl
rest_unended (x ∷ a) h = ap (list_all (λ line. not line.is_ended))
    (lines_last (x ∷ a) h (ne_eqb (length (x ∷ a)) 0 (λ e. omega (arith, e))))
