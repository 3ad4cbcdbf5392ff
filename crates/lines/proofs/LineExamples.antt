-- Lines that would reveal a misreading of the definitions.
use Rattle.lines.proofs.Words.{◌≡◌, [], ◌∷◌, ◌++◌, true, false, codes, length, refl, sym, ap, true≢false, arith, concat, IsFirstLine, LineFeed, ReturnAndLineFeed, EndOfInput}
use Rattle.lines.proofs.Lines.{lines_line}

-- a line feed ends a line, and what follows it is not part of the line
line_feed : IsFirstLine LineFeed false (codes "a" ++ 10 ∷ codes "b") (codes "a") (codes "b")
line_feed = λ rest. lines_line (codes "a") (codes "b" ++ rest) (refl, tt)

-- one carriage return before it is dropped, but not a second one
one_return : IsFirstLine ReturnAndLineFeed false (codes "a" ++ 13 ∷ 13 ∷ 10 ∷ []) (codes "a" ++ 13 ∷ []) []
one_return = λ rest. lines_line (codes "a" ++ 13 ∷ 13 ∷ []) rest (refl, (refl, (refl, tt)))

return_is_dropped : ¬ IsFirstLine LineFeed false (codes "a" ++ 13 ∷ 10 ∷ []) (codes "a" ++ 13 ∷ []) []
return_is_dropped h = let e : 1 ≡ 2 = ap (λ ls. length (concat ls)) (h []) in absurd (omega (arith, e))

-- without a line feed, there is a line only at the end of the input: all that is left, unless nothing is left
last_line : IsFirstLine EndOfInput true (codes "ab" ++ 13 ∷ []) (codes "ab" ++ 13 ∷ []) []
last_line = (refl, refl, refl)

not_before_the_end : ¬ IsFirstLine EndOfInput false (codes "ab") (codes "ab") []
not_before_the_end h = true≢false (sym h.0)

not_a_part : ¬ IsFirstLine EndOfInput true (codes "ab") (codes "a") (codes "b")
not_a_part h = let e : 1 ≡ 0 = ap length h.1 in absurd (omega (arith, e))

no_empty_line : ¬ IsFirstLine EndOfInput true [] [] []
no_empty_line h = let e : 0 ≡ 1 = ap length h.2 in absurd (omega (arith, e))
