-- What a `LineBuffer` returns is a line of the log.
use Rattle.program.proofs.Words.{◌≡◌, ℕ, ◌-◌, ◌≤◌, ◌==◌, ◌⊎◌, inl, inr, Bool, true, false, cond, slice_index, List, [], ◌∷◌, ◌++◌, length, take, refl, sym, ap, subst, ◌∙◌, arith, append_assoc, append-nil, length-append, length-take, ne_eqb, nil_from_length, lines, strip_carriage_return, Buffered, IsFirstLine, HandsOut, end_bytes, LineEnd, LineFeed, ReturnAndLineFeed, EndOfInput, HasNo, HasNo-push, newline_cases, LogLine, log_lines, content, printed, feed_behind, ended, unended, log_line}
use Rattle.lines.proofs.Lines as engine
use Rattle.program.proofs.LogLines.{lines_line, lines_last}

-- ---- the first line of a text has no line feed

-- a text has no line feed, or has some bytes without one before the first
cut_first : (text : List ℕ) → HasNo 10 text
    ⊎ ((front : List ℕ) × (behind : List ℕ) × HasNo 10 front × (text ≡ front ++ 10 ∷ behind))
cut_first [] = inl tt
cut_first (x ∷ text) = elim (newline_cases x) [
  | inl e ↦ inr ([], text, tt, ap (λ c. c ∷ text) e)
  | inr e ↦ elim (cut_first text) [
    | inl none ↦ inl (e, none)
    | inr cut ↦ inr (x ∷ cut.0, cut.1, (e, cut.2), ap (λ t. x ∷ t) cut.3)
  ]
]

same_head : (x y : List ℕ) (xs ys : List (List ℕ)) → x ∷ xs ≡ y ∷ ys → x ≡ y
same_head x y xs ys e = cc

strip_fits : (l : List ℕ) → length (strip_carriage_return l) ≤ length l
strip_fits l = elim (slice_index l (length l - 1) == 13) as
    (λ v. length (cond v (take (length l - 1) l) l) ≤ length l) [
      | true ↦ omega (arith, length-take (length l - 1) l)
      | false ↦ omega arith
    ]

first_has_none : (text line behind : List ℕ) (others : List (List ℕ)) → text ≡ line ++ behind
    → lines text ≡ line ∷ others → HasNo 10 line
first_has_none text line behind others is e = elim (cut_first line) [
  | inl none ↦ none
  | inr cut ↦
      let at : text ≡ cut.0 ++ 10 ∷ (cut.1 ++ behind) = is ∙ ap (λ l. l ++ behind) cut.3
      ∙ append_assoc cut.0 (10 ∷ cut.1) behind in
      let first : strip_carriage_return cut.0 ∷ lines (cut.1 ++ behind) ≡ line ∷ others = sym
      (ap lines at ∙ engine.lines_line cut.0 (cut.1 ++ behind) cut.2) ∙ e in
      let same : strip_carriage_return cut.0 ≡ line = same_head (strip_carriage_return cut.0) line
      (lines (cut.1 ++ behind)) others first in
      absurd (omega (
        arith,
        ap length same,
        strip_fits cut.0,
        ap length cut.3,
        length-append cut.0
            (10 ∷ cut.1),
      ))
]

-- ---- the line of the log

-- it is printed as it was read, with a line feed
pub printed_is : (line : List ℕ) (end : LineEnd)
    → (line ++ end_bytes end) ++ feed_behind end ≡ printed (log_line line end)
printed_is line LineFeed = append-nil (line ++ 10 ∷ [])
printed_is line ReturnAndLineFeed = append-nil (line ++ 13 ∷ 10 ∷ [])
    ∙ sym (append_assoc line (13 ∷ []) (10 ∷ []))
printed_is line EndOfInput = ap (λ l. l ++ 10 ∷ []) (append-nil line)

-- of the pending bytes it is the first line, and these bytes come after it
pub record IsFirstOf (ended : Bool) (pending line after : List ℕ) (end : LineEnd) : Type 0 where
  pub is : content (log_line line end) ≡ line
  pub lines : (more : List ℕ) → (ended ≡ true → more ≡ [])
      → log_lines (pending ++ more) ≡ log_line line end ∷ log_lines (after ++ more)
  pub whole : ((log_line line end).is_ended ≡ true) ⊎ (ended ≡ true)

module _ (raw line pending after : List ℕ) (none : HasNo 10 raw) (is : pending ≡ raw ++ 10 ∷ after)
    (first : (rest : List ℕ) → lines (pending ++ rest) ≡ line ∷ lines (after ++ rest)) where
  cut : (more : List ℕ) → pending ++ more ≡ raw ++ 10 ∷ (after ++ more)
  cut more = ap (λ l. l ++ more) is ∙ append_assoc raw (10 ∷ after) more

  feed_content : strip_carriage_return raw ≡ line
  feed_content =
      same_head (strip_carriage_return raw) line (lines (after ++ [])) (lines (after ++ []))
      (sym (ap lines (cut []) ∙ engine.lines_line raw (after ++ []) none) ∙ first [])

  feed_lines : (more : List ℕ) → log_lines (pending ++ more) ≡ ended raw ∷ log_lines (after ++ more)
  feed_lines more = ap log_lines (cut more) ∙ lines_line raw (after ++ more) none

  -- so it is the first line
  feed_first : (end : LineEnd) → log_line line end ≡ ended raw → (all : Bool) → IsFirstOf all pending line after end
  feed_first end e all = record {
    is = ap content e ∙ feed_content;
    lines = λ more _. feed_lines more ∙ ap (λ l. l ∷ log_lines (after ++ more)) (sym e);
    whole = inl (ap (λ (l : LogLine). l.is_ended) e);
  }

-- where a line feed ends the line
feed_none : (pending line behind after : List ℕ) → pending ≡ line ++ behind
    → ((rest : List ℕ) → lines (pending ++ rest) ≡ line ∷ lines (after ++ rest)) → HasNo 10 line
feed_none pending line behind after is first =
    first_has_none pending line behind (lines (after ++ [])) is
    (ap lines (sym (append-nil pending)) ∙ first [])

is_first : (ended : Bool) (pending line after : List ℕ) (end : LineEnd)
    → pending ≡ (line ++ end_bytes end) ++ after → IsFirstLine end ended pending line after
    → IsFirstOf ended pending line after end
is_first ended pending line after LineFeed is first =
    let at : pending ≡ line ++ 10 ∷ after = is ∙ append_assoc line (10 ∷ []) after in
    let none = feed_none pending line (10 ∷ after) after at first in
    feed_first line line pending after none at first LineFeed refl ended
is_first ended pending line after ReturnAndLineFeed is first =
    let raw = line ++ 13 ∷ [] in
    let at : pending ≡ line ++ 13 ∷ 10 ∷ after = is ∙ append_assoc line (13 ∷ 10 ∷ []) after in
    let none : HasNo 10 raw = HasNo-push 10 line 13
    (feed_none pending line (13 ∷ 10 ∷ after) after at first) refl in
    let cut : pending ≡ raw ++ 10 ∷ after = at ∙ sym (append_assoc line (13 ∷ []) (10 ∷ after)) in
    feed_first raw line pending after none cut first ReturnAndLineFeed refl ended
is_first ended pending line after EndOfInput is first =
    let at : pending ≡ line = is ∙ ap (λ a. (line ++ []) ++ a) first.1 ∙ append-nil (line ++ [])
    ∙ append-nil line in
    let none : HasNo 10 line = first_has_none pending line [] [] (at ∙ sym (append-nil line))
    first.2 in
    let nothing : length line ≡ 0 → [] ≡ line ∷ [] = λ e. sym
    (ap lines (at ∙ nil_from_length line e)) ∙ first.2 in
    let some : (length line == 0) ≡ false = ne_eqb (length line) 0
    (λ e. omega (arith, ap length (nothing e))) in
    record {
      is = refl;
      lines = λ more e.
          subst (λ m. log_lines (pending ++ m) ≡ unended line ∷ log_lines (after ++ m))
          (sym (e first.0))
          (ap log_lines (append-nil pending ∙ at) ∙ lines_last line none some
          ∙ ap (λ a. unended line ∷ log_lines (a ++ [])) (sym first.1));
      whole = inr first.0;
    }

pub handed_first : (held : Buffered) (pending line : List ℕ) (end : LineEnd)
    (h : HandsOut held pending line end) → IsFirstOf held.ended pending line h.after end
handed_first held pending line end h = is_first held.ended pending line h.after end h.bytes h.first
