-- A line that is too long is one, whatever follows what was read of the log.
use Rattle.program.proofs.Words.{◌≡◌, ◌∙◌, ◌<◌, ◌⊎◌, inl, inr, ℕ, true, List, [], ◌∷◌, ◌++◌, sym, ap, arith, length, append_assoc, append-nil, length-append, true≢false, ne_eqb, HasNo, HasNo-push, strip_length, newline_cases, LogLine, log_lines, content, ended, unended, IsWhole}
use Rattle.program.proofs.LogLines.{lines_line, lines_last, some_bytes}

first_of : (x y : LogLine) (xs ys : List LogLine) → x ∷ xs ≡ y ∷ ys → x ≡ y
first_of x y xs ys e = cc

others_of : (x y : LogLine) (xs ys : List LogLine) → x ∷ xs ≡ y ∷ ys → xs ≡ ys
others_of x y xs ys e = cc

no_line : (lines others : List LogLine) (line : LogLine) → [] ≡ lines ++ line ∷ others → ⊥
no_line lines others line e = omega (arith, ap length e, length-append lines (line ∷ others))

-- after `lines` comes one that is too long
abbrev pub LongBehind : List LogLine → List LogLine → Type 0
LongBehind lines all = (line : LogLine) × (others : List LogLine) × (all ≡ lines ++ line ∷ others)
    × (1048576 < length (content line))

-- what was read begins with a line that is too long, however it goes on
long_first : (p after : List ℕ) → HasNo 10 p → 1048577 < length p → LongBehind [] (log_lines (p ++ after))
long_first p [] none long =
    (unended p, [], ap log_lines (append-nil p) ∙ lines_last p none (some_bytes p long), omega (arith, long))
long_first p (c ∷ after) none long = elim (newline_cases c) [
  | inl e ↦ (
    ended p,
    log_lines after,
    ap (λ b. log_lines (p ++ b ∷ after)) e ∙ lines_line p after none,
    omega (arith, long, strip_length p),
  )
  | inr e ↦
      let size : 1048577 < length (p ++ c ∷ []) = omega (arith, long, length-append p (c ∷ [])) in
      let more = long_first (p ++ c ∷ []) after (HasNo-push 10 p c none e) size in
      (more.0, more.1, ap log_lines (sym (append_assoc p (c ∷ []) after)) ∙ more.2, more.3)
]

-- the line has its line feed, or is too long whatever its end is
abbrev IsSure : LogLine → Type 0
IsSure line = (line.is_ended ≡ true) ⊎ (1048577 < length line.bytes)

module _ (rest : List ℕ) where
  last_stays : (p : List ℕ) (line : LogLine) → HasNo 10 p → unended p ≡ line → IsSure line
      → LongBehind [] (log_lines (p ++ rest))
  last_stays p line none same (inl ends) =
      absurd (true≢false (sym ends ∙ ap (λ (l : LogLine). l.is_ended) (sym same)))
  last_stays p line none same (inr long) =
      long_first p rest none (omega (arith, long, ap (λ (l : LogLine). length l.bytes) same))

  -- the lines of `p`, which was read before, followed by a text
  stays : (p text : List ℕ) (lines others : List LogLine) (line : LogLine) → HasNo 10 p
      → log_lines (p ++ text) ≡ lines ++ line ∷ others → IsSure line → 1048576 < length (content line)
      → LongBehind lines (log_lines (p ++ (text ++ rest)))
  stays [] [] lines others line none e is long = absurd (no_line lines others line e)
  stays (x ∷ p) [] lines others line none e is long =
      let last = sym (ap log_lines (append-nil (x ∷ p))
      ∙ lines_last (x ∷ p) none (ne_eqb (length (x ∷ p)) 0 (λ h. omega (arith, h)))) ∙ e in
      at_last lines last where
        at_last : (lines : List LogLine) → unended (x ∷ p) ∷ [] ≡ lines ++ line ∷ others
            → LongBehind lines (log_lines ((x ∷ p) ++ rest))
        at_last [] last = last_stays (x ∷ p) line none (first_of (unended (x ∷ p)) line [] others last) is
        at_last (l ∷ lines) last = absurd (no_line lines others line
            (others_of (unended (x ∷ p)) l [] (lines ++ line ∷ others) last))
  stays p (c ∷ text) lines others line none e is long = elim (newline_cases c) [
    | inl same ↦
        let front = ap (λ b. log_lines (p ++ b ∷ (text ++ rest))) same ∙ lines_line p (text ++ rest) none in
        at_feed lines front (sym (ap (λ b. log_lines (p ++ b ∷ text)) same ∙ lines_line p text none) ∙ e)
        (λ behind cut. stays [] text behind others line tt cut is long)
    | inr other ↦
        let more = stays (p ++ c ∷ []) text lines others line (HasNo-push 10 p c none other)
        (ap log_lines (append_assoc p (c ∷ []) text) ∙ e) is long in
        (more.0, more.1, ap log_lines (sym (append_assoc p (c ∷ []) (text ++ rest))) ∙ more.2, more.3)
  ] where
    at_feed : (lines : List LogLine) → log_lines (p ++ c ∷ (text ++ rest)) ≡ ended p ∷ log_lines (text ++ rest)
        → ended p ∷ log_lines text ≡ lines ++ line ∷ others
        → ((behind : List LogLine) → log_lines text ≡ behind ++ line ∷ others
        → LongBehind behind (log_lines (text ++ rest)))
        → LongBehind lines (log_lines (p ++ c ∷ (text ++ rest)))
    at_feed [] front cut stay = (
      ended p,
      log_lines (text ++ rest),
      front,
      omega (
        arith,
        long,
        ap (λ (l : LogLine). length (content l))
            (first_of (ended p) line (log_lines text) others cut),
      ),
    )
    at_feed (l ∷ lines) front cut stay =
        let more = stay lines (others_of (ended p) l (log_lines text) (lines ++ line ∷ others) cut) in (
          more.0,
          more.1,
          front ∙ ap (λ ls. ended p ∷ ls) more.2
              ∙ ap (λ (x : LogLine). x ∷ (lines ++ more.0 ∷ more.1))
              (first_of (ended p) l (log_lines text) (lines ++ line ∷ others) cut),
          more.3,
        )

pub long_stays : (read rest : List ℕ) (lines others : List LogLine) (line : LogLine)
    → log_lines read ≡ lines ++ line ∷ others → IsWhole (rest ≡ []) line → 1048576 < length (content line)
    → LongBehind lines (log_lines (read ++ rest))
long_stays read rest lines others line e (inl ends) long = stays rest [] read lines others line tt e (inl ends) long
long_stays read rest lines others line e (inr (inl nothing)) long =
    (line, others, ap (λ (r : List ℕ). log_lines (read ++ r)) nothing ∙ ap log_lines (append-nil read) ∙ e, long)
long_stays read rest lines others line e (inr (inr long)) so = stays rest [] read lines others line tt e (inr long) so
