-- The ends of lists: the last line of a text, and the findings for it.
use Rattle.cidr_merge.proofs.Words.{◌≡◌, ◌+◌, ◌-◌, ◌<◌, ◌∙◌, ℕ, suc, List, [], ◌∷◌, ◌++◌, refl, sym, ap, arith, length, map, drop, drop-cons, get_or, get_or_push, append_assoc, append-nil, length-append, lines, String, string_bytes, Rules, end_findings, ends_findings, end_line}

-- ---- the last line of a text

-- the lines of a text up to what is left of it: their number, and the last of them
abbrev pub LinesSoFar : List ℕ → List ℕ → ℕ → List ℕ → Type 0
LinesSoFar text left number last = (done : List (List ℕ)) × (done ++ lines left ≡ lines text)
    × (length done ≡ number) × (last ≡ get_or done (number - 1) [])

pub no_lines : (text left last : List ℕ) → left ≡ text → last ≡ [] → LinesSoFar text left 0 last
no_lines text left last same empty = ([], ap lines same, refl, empty)

pub line_more : (text left rest last line : List ℕ) (number now : ℕ) → LinesSoFar text left number last
    → lines left ≡ line ∷ lines rest → now ≡ number + 1 → LinesSoFar text rest now line
line_more text left rest last line number now (done, all, count, is) next more =
    let longer = length-append done (line ∷ []) in (
      done ++ line ∷ [],
      append_assoc done (line ∷ []) (lines rest) ∙ ap (λ l. done ++ l) (sym next) ∙ all,
      omega (arith, longer, count, more),
      sym (get_or_push done line [] (now - 1) (omega (arith, count, more))),
    )

pub last_is : (text left last : List ℕ) (number : ℕ) → LinesSoFar text left number last → lines left ≡ []
    → (number ≡ length (lines text)) × (last ≡ end_line text)
last_is text left last number (done, all, count, is) none =
    let same : done ≡ lines text = sym (append-nil done) ∙ ap (λ l. done ++ l) (sym none) ∙ all in (
      sym count ∙ ap (λ (l : List (List ℕ)). length l) same,
      is ∙ ap (λ n. get_or done (n - 1) []) (sym count)
          ∙ ap (λ (l : List (List ℕ)). get_or l (length l - 1) []) same,
    )

-- ---- lists in turn

left_at : {X : Type 0} (items : List X) (at : ℕ) (item : X) → at < length items → item ≡ get_or items at item
    → drop at items ≡ item ∷ drop (at + 1) items
left_at items at item within is =
    let next : suc at ≡ at + 1 = omega arith in
    drop-cons items at item within ∙ ap (λ i. i ∷ drop (suc at) items) (sym is) ∙ ap (λ n. item ∷ drop n items) next

-- the findings for the lists from a place on begin with those for the one there
pub ends_next : {Z X : Type 0} (rules : Rules) (items : X → List ℕ) (names : List (String Z)) (texts : List X)
    (at : ℕ) (name : String Z) (text : X) → at < length names → at < length texts → name ≡ get_or names at name
    → text ≡ get_or texts at text → ends_findings rules (drop at names) (map items (drop at texts))
    ≡ end_findings rules (string_bytes name) (items text)
    ++ ends_findings rules (drop (at + 1) names) (map items (drop (at + 1) texts))
ends_next rules items names texts at name text named held is has =
    ap (λ ns. ends_findings rules ns (map items (drop at texts))) (left_at names at name named is)
    ∙ ap (λ ts. ends_findings rules (name ∷ drop (at + 1) names) (map items ts)) (left_at texts at text held has)
