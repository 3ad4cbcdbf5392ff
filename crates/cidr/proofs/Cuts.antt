-- A line, cut at its first blank.
use Rattle.cidr.proofs.Words.{◌≡◌, ℕ, ◌+◌, ◌-◌, List, ◌∷◌, take, drop, refl, ap, ◌∙◌, subst, arith, drop-drop, IsNext, IsLastWord, IsWordBefore, IsCut, words, HasNo, IsFirst, first_behind, split_at, split_none, split_cons, split_text}

pub cut_here : (line : List ℕ) (at : ℕ) → IsFirst 32 line at → IsWordBefore line (take at line) (drop (at + 1) line)
cut_here line at h = ap words (split_text 32 line at h) ∙ split_at 32 (take at line) (drop (at + 1) line) refl h.before

pub cut_behind : (line : List ℕ) (from at : ℕ) → IsNext 32 line from at
    → IsCut line from (take (at - from) (drop from line)) (at + 1)
cut_behind line from at h =
    let rest = drop from line in
    let next : drop (at - from + 1) rest ≡ drop (at + 1) line =
    let on : from + (at - from + 1) ≡ at + 1 = omega (arith, h.behind) in drop-drop (at - from + 1) from line
    ∙ ap (λ n. drop n line) on in
    record {
      cut = subst (IsWordBefore rest (take (at - from) rest)) next
          (cut_here rest (at - from) (first_behind 32 line from at h));
      within = omega (arith, h.within);
    }

pub no_cut : (line : List ℕ) → HasNo 32 line → IsLastWord line
no_cut line h = split_none 32 line h

-- there is always a first word
pub words_cons : (line : List ℕ) → (word : List ℕ) × (more : List (List ℕ)) × (words line ≡ word ∷ more)
words_cons line = split_cons 32 line
