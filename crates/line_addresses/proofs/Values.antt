-- The value after a text.
use Rattle.line_addresses.proofs.Words.{◌≡◌, ℕ, ◌+◌, ◌<◌, ◌≤◌, true, false, cond, not, List, ◌∷◌, Option, length, take, drop, get_or, None, Some, sym, ap, ◌∙◌, arith, drop_all, drop_more, is_some, position_or_len_is, MatchOption, IsPicked, IsRunEnd, Spelled, Found, first_run, is_run_byte, opened, opened_from, opens}

-- ---- the bytes that are passed over

by_byte : (before : ℕ) (text : List ℕ) (byte : ℕ) (rest : List ℕ) → text ≡ byte ∷ rest
    → opened_from before text ≡ cond (opens before byte) (opened_from byte rest) (byte ∷ rest)
by_byte before text byte rest e = ap (opened_from before) e

module _ (text : List ℕ) (before at : ℕ) (within : at < length text)
    (same : opened text ≡ opened_from before (drop at text)) where
  pub passed_over : opens before (get_or text at 0) ≡ true
      → opened text ≡ opened_from (get_or text at 0) (drop (at + 1) text)
  passed_over is =
      same ∙ by_byte before (drop at text) (get_or text at 0) (drop (at + 1) text) (drop_more text at 0 within)
      ∙ ap (λ b. cond b (opened_from (get_or text at 0) (drop (at + 1) text)) (get_or text at 0 ∷ drop (at + 1) text)) is

  pub stops_here : opens before (get_or text at 0) ≡ false → drop at text ≡ opened text
  stops_here is = sym (same
      ∙ by_byte before (drop at text) (get_or text at 0) (drop (at + 1) text) (drop_more text at 0 within)
      ∙ ap (λ b. cond b (opened_from (get_or text at 0) (drop (at + 1) text)) (get_or text at 0 ∷ drop (at + 1) text)) is
      ∙ sym (drop_more text at 0 within))

pub all_passed : (text : List ℕ) (before at : ℕ) → length text ≤ at
    → opened text ≡ opened_from before (drop at text) → drop at text ≡ opened text
all_passed text before at past same =
    drop_all at text past ∙ sym (same ∙ ap (opened_from before) (drop_all at text past))

-- ---- the run at the beginning

pub run_first : (text : List ℕ) (end : ℕ) → IsRunEnd text 0 end → first_run text ≡ take end text
run_first text end is =
    ap (λ n. take n text) (position_or_len_is (λ byte. not (is_run_byte byte)) text end 0 is.within
    (λ k below. is.before k (omega arith) below) is.stops)

pub same_some : (one : Option Spelled) (text : List ℕ) (found : Option Found)
    → MatchOption found (one ≡ None) (IsPicked one text) → is_some found ≡ is_some one
same_some one text None is = sym (ap is_some is)
same_some one text (Some found) picked = sym (ap is_some picked.is)
