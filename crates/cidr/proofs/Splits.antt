-- An input that is cut after a line feed.
use Rattle.cidr.proofs.Words.{◌≡◌, ℕ, List, [], ◌∷◌, ◌++◌, sym, ap, ap₂, ◌∙◌, subst, refl, append-nil, append_assoc, lines, MayAnswer, IsOutputFrom, replies, EndsALine, IsOutputInParts, SplitsAtLineEnds, PlainPartsRunAlone, Routes, no_routes, lines_from, pending_from, last_line, lines-append, pending-append, lines_split}
use Rattle.cidr.proofs.PlainLines.{plain_turns}
use Rattle.cidr.proofs.Turns.{replies-append, answers-append}

feed_alone : (p : List ℕ) → pending_from p (10 ∷ []) ≡ []
unfolding pending_from
feed_alone p = refl

-- nothing is pending after a line feed
nothing_pending : (front : List ℕ) → EndsALine front → pending_from [] front ≡ []
nothing_pending front ends = ap (pending_from []) ends.1 ∙ pending-append [] ends.0 (10 ∷ [])
    ∙ feed_alone (pending_from [] ends.0)

no_last_line : (p : List ℕ) → p ≡ [] → last_line p ≡ []
unfolding last_line
no_last_line p none = ap last_line none

front_lines : (front : List ℕ) → EndsALine front → lines front ≡ lines_from [] front
front_lines front ends =
    lines_split [] front tt ∙ ap (λ ls. lines_from [] front ++ ls) (no_last_line _ (nothing_pending front ends))
    ∙ append-nil (lines_from [] front)

-- the lines of both parts are the lines of the first followed by the lines of the second
pub lines_of_both : (front back : List ℕ) → EndsALine front → lines (front ++ back) ≡ lines front ++ lines back
lines_of_both front back ends =
    let none = nothing_pending front ends in
    lines_split [] (front ++ back) tt
    ∙ ap₂ (λ ls p. ls ++ last_line p)
    (lines-append [] front back ∙ ap (λ p. lines_from [] front ++ lines_from p back) none)
    (pending-append [] front back ∙ ap (λ p. pending_from p back) none)
    ∙ append_assoc (lines_from [] front) (lines_from [] back) (last_line (pending_from [] back))
    ∙ ap₂ (λ ls ms. ls ++ ms) (sym (front_lines front ends)) (sym (lines_split [] back tt))

-- answers to the lines of both parts, cut between the two
abbrev InTwo : Routes → List (List ℕ) → List (List ℕ) → List (List ℕ) → Routes → Type 0
InTwo r ls ms xs t = (s : Routes) × (ys : List (List ℕ)) × (zs : List (List ℕ)) × MayAnswer r ls ys s
    × MayAnswer s ms zs t × (xs ≡ ys ++ zs)

cut_turns : (r t : Routes) (ls ms xs : List (List ℕ)) → MayAnswer r (ls ++ ms) xs t → InTwo r ls ms xs t
cut_turns r t [] ms xs turns = (r, [], xs, refl, turns, refl)
cut_turns r t (l ∷ ls) ms [] turns = absurd turns
cut_turns r t (l ∷ ls) ms (x ∷ xs) turns =
    let rest = cut_turns turns.0 t ls ms xs turns.2 in
    (rest.0, x ∷ rest.1, rest.2, (turns.0, turns.1, rest.3), rest.4, ap (λ ys. x ∷ ys) rest.5)

pub splits : SplitsAtLineEnds
splits front back output before after ends = (
  λ h.
      let two = cut_turns before after (lines front) (lines back) h.0
      (subst (λ (ls : List (List ℕ)). MayAnswer before ls h.0 after) (lines_of_both front back ends) h.1) in (
        two.0,
        replies two.1,
        replies two.2,
        (two.1, two.3, refl),
        (two.2, two.4, refl),
        h.2 ∙ ap replies two.5
            ∙ replies-append two.1 two.2,
      ),
  λ h.
      let one = h.3 in
      let two = h.4 in
      let turns = answers-append before h.0 after (lines front) (lines back) one.0 two.0 one.1 two.1 in (
        one.0 ++ two.0,
        subst (λ (ls : List (List ℕ)). MayAnswer before ls (one.0 ++ two.0) after)
            (sym (lines_of_both front back ends)) turns,
        h.5 ∙ ap₂ (λ a b. a ++ b) one.2 two.2 ∙ sym (replies-append one.0 two.0),
      ),
)

pub parts_alone : PlainPartsRunAlone
parts_alone front back output ends plain = (
  λ h.
      let parts = (splits front back output no_routes h.0 ends).0 h.1 in
      let same = (plain_turns no_routes parts.0 (lines front) parts.3.0 plain parts.3.1).1 in (
        parts.1,
        parts.2,
        (parts.0, parts.3),
        (h.0, subst (λ (r : Routes). IsOutputFrom r back parts.2 h.0) same parts.4),
        parts.5,
      ),
  λ h.
      let one = h.2 in
      let two = h.3 in
      let same = (plain_turns no_routes one.0 (lines front) one.1.0 plain one.1.1).1 in
      let parts : IsOutputInParts no_routes front back output two.0 =
      (no_routes, h.0, h.1, subst (λ (r : Routes). IsOutputFrom no_routes front h.0 r) same one.1, two.1, h.4) in
      (two.0, (splits front back output no_routes two.0 ends).1 parts),
)
