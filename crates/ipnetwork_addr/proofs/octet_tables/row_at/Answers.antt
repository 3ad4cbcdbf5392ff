use Rattle.ipnetwork_addr.proofs.Known.{◌≡◌, ℕ, ◌<◌, true, inl, inr, ltb, get_or, refl, sym, subst, lit≤, agree_below_at, cases_lt, ltb-true, get_or_past, ROWS}
use Rattle.ipnetwork_addr.proofs.octet_tables.row_at.Goals as goal

-- each entry of the table, checked by computing all of them
entry : (at : ℕ) → get_or ROWS at 0 < 81
entry at = elim (cases_lt at 256) [
  | inl within ↦ ltb-true (get_or ROWS at 0) 81
      (agree_below_at (λ b. ltb (get_or ROWS b 0) 81) (λ _. true) 256 at refl within)
  | inr past ↦ subst (λ n. n < 81) (sym (get_or_past ROWS at 0 past)) (lit≤ tt)
]

is_row : (n at : ℕ) → n ≡ get_or ROWS at 0 → n < 81
is_row n at is = subst (λ k. k < 81) (sym is) (entry at)

pub returns : goal.returns
returns c = is_row _ c.args.hash c.from.ensures
