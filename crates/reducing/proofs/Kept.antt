-- Joins keep the addresses of a list.
use Rattle.reducing.proofs.Words.{◌≡◌, ℕ, ◌+◌, ◌<◌, ◌≤◌, List, length, sym, subst, arith, ⊎_elim, cases_lt, Network, AggregateIsApart, set_block, IsAddressSet, Becomes, Same, Joined, no_pair, least, JoinsFirst}
use Rattle.reducing.proofs.ListParts.{joins_of, no_neighbours}
use Rattle.reducing.proofs.Rows.{IsRow, set_row}

pub row_of_set : (w : ℕ) (xs : List Network) → AggregateIsApart → IsAddressSet w xs → IsRow w xs
row_of_set w xs apart h = set_row w xs (λ n c. set_block w xs n h c) (apart w xs xs h)

-- ---- one step of many

pub starts : (w most : ℕ) (xs us : List Network) → us ≡ xs → Becomes w most xs us 0
starts w most xs us e = subst (λ (u : List Network). Becomes w most xs u 0) (sym e) Same

pub goes_on : (w most : ℕ) (xs us next : List Network) (k n : ℕ) → Becomes w most xs us k → most < length us
    → n ≡ least w us → JoinsFirst w us next n → Becomes w most xs next (k + n)
goes_on w most xs us next k n h many is join = Joined h many (joins_of w us next n is join)

-- the least number of others of a list with a pair is that of a pair
pub has_pair : (w : ℕ) (us : List Network) (n : ℕ) → w ≤ 128 → 1 < length us → n ≡ least w us → n < no_pair
has_pair w us n few pair is =
    let Goal : Type 0 = n < no_pair in
    ⊎_elim (λ (l : n < no_pair). l)
    (λ (none : no_pair ≤ n).
    let short = no_neighbours w us few (omega (arith, none, is)) in
    let r : Goal = absurd (omega (arith, short, pair)) in r)
    (cases_lt n no_pair)
