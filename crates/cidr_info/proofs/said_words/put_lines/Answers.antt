use Rattle.cidr_info.proofs.Known.{◌≡◌, ◌∙◌, ◌++◌, ◌+◌, ◌-◌, List, [], ◌∷◌, ℕ, take, drop, ap, refl, sym, subst, OnOk, take_rest, append_assoc, append-nil, arith, drop-drop, Option, IpNetwork, IsNext, first_behind, none_behind, split_text, last_line, lines_last, lines_line, lines, strip_carriage_return, lines_said, line_said}
use Rattle.cidr_info.proofs.said_words.put_lines.Goals as goal

-- a line that a line feed ends, and those after it
lines_at : (text : List ℕ) (at end : ℕ) → IsNext 10 text at end
    → lines_said (lines (drop at text))
    ≡ line_said (strip_carriage_return (take (end - at) (drop at text))) ++ lines_said (lines (drop (end + 1) text))
lines_at text at end next =
    let rest = drop at text in
    let first = first_behind 10 text at end next in
    let same : at + (end - at + 1) ≡ end + 1 = omega (arith, next.behind) in
    ap (λ (t : List ℕ). lines_said (lines t)) (split_text 10 rest (end - at) first)
    ∙ ap lines_said (lines_line (take (end - at) rest) (drop (end - at + 1) rest) first.before)
    ∙ ap (λ (t : List ℕ). line_said (strip_carriage_return (take (end - at) rest)) ++ lines_said (lines t))
    (drop-drop (end - at + 1) at text ∙ ap (λ (n : ℕ). drop n text) same)

-- what follows the last line feed is a line, or says nothing
last_said : (text : List ℕ) → lines_said (last_line text) ≡ line_said text
unfolding last_line
last_said [] = refl
last_said (byte ∷ text) = append-nil (line_said (byte ∷ text))

pub lines-preserved : goal.lines-preserved
lines-preserved c =
    let had = c.lines.all.items in
    let next = c.in-Some.ensures in
    let left = lines_said (lines (drop (c.in-Some.end + 1) c.args.input.now)) in record {
      within = omega (arith, next.within);
      same = ap (λ (items : List (Option IpNetwork)). items ++ left) c.in_ok-put_line.ensures
          ∙ append_assoc had _ left
          ∙ ap (λ (t : List ℕ). had ++ (line_said t ++ left)) c.without_return.ensures
          ∙ sym (ap (λ (l : List (Option IpNetwork)). had ++ l) (lines_at c.args.input.now c.lines.at c.in-Some.end
          next))
          ∙ c.lines.invariant.same;
    }

pub returns : goal.returns
returns c =
    let text = c.args.input.now in
    let at = c.lines.at in
    let rest = drop at text in
    let had = c.lines.all.items in
    let last : line_said rest ≡ lines_said (lines rest) =
    sym (ap lines_said (lines_last rest (none_behind 10 text at c.in_default.ensures)) ∙ last_said rest) in
    subst (λ (items : List (Option IpNetwork)). OnOk c.put_line-2.result (c.put_line-2.new.all.items ≡ items))
    (ap (λ (t : List ℕ). had ++ line_said t) (take_rest text at) ∙ ap (λ (l : List (Option IpNetwork)). had ++ l) last
    ∙ c.lines.invariant.same)
    c.put_line-2.ensures
