-- One scan over the groups finds the leftmost of the longest runs of zeros.
use Rattle.ipnetwork_addr.proofs.Words.{◌≡◌, ◌≢◌, ℕ, ◌+◌, ◌-◌, ◌<◌, ◌≤◌, List, length, get_or, arith, inl, inr, cases_eq, cases_lt, IsZeroRun, IsLongestRun}

-- after the groups before `position` are scanned: the run that ends there begins at `start`, and the longest run has n
-- groups from index i on
pub record Scanned (groups : List ℕ) (position start i n : ℕ) : Type 0 where
  pub within : start ≤ position
  pub last : (k : ℕ) → start ≤ k → k < position → get_or groups k 0 ≡ 0
  pub edge : (j m : ℕ) → IsZeroRun groups j m → j + m ≡ position → j < start → ⊥
  pub ends : i + n ≤ position
  pub zeros : (k : ℕ) → i ≤ k → k < i + n → get_or groups k 0 ≡ 0
  pub longest : (j m : ℕ) → IsZeroRun groups j m → j + m ≤ position → m ≤ n
  pub leftmost : (j : ℕ) → 0 < n → IsZeroRun groups j n → j + n ≤ position → i ≤ j

-- a run without its last groups is a run
shorter : (groups : List ℕ) (j m n : ℕ) → n ≤ m → IsZeroRun groups j m → IsZeroRun groups j n
shorter groups j m n less run = record {
  there = omega (arith, less, run.there);
  zero_groups = λ k from below. run.zero_groups k from (omega (arith, below, less));
}

module _ (groups : List ℕ) (position start i n : ℕ) (so_far : Scanned groups position start i n) where
  -- a nonzero group ends each run
  module _ (other : get_or groups position 0 ≢ 0) where
    not_through : (j m : ℕ) → IsZeroRun groups j m → j ≤ position → position < j + m → ⊥
    not_through j m run from past = other (run.zero_groups position from past)

    pub past_other : Scanned groups (position + 1) (position + 1) i n
    past_other = record {
      within = omega arith;
      last = λ k from below. absurd (omega (arith, from, below));
      edge = λ j m run ends before. not_through j m run (omega (arith, before)) (omega (arith, ends));
      ends = omega (arith, so_far.ends);
      zeros = so_far.zeros;
      longest = λ j m run ends. elim (cases_lt position (j + m)) [
        | inl past ↦ elim (cases_lt position j) [
          | inl beyond ↦ omega (arith, beyond, ends)
          | inr from ↦ absurd (not_through j m run from past)
        ]
        | inr before ↦ so_far.longest j m run before
      ];
      leftmost = λ j some run ends. elim (cases_lt position (j + n)) [
        | inl past ↦ elim (cases_lt position j) [
          | inl beyond ↦ absurd (omega (arith, beyond, ends, some))
          | inr from ↦ absurd (not_through j n run from past)
        ]
        | inr before ↦ so_far.leftmost j some run before
      ];
    }

  -- a zero group extends the last run
  module _ (zero : get_or groups position 0 ≡ 0) where
    last_longer : (k : ℕ) → start ≤ k → k < position + 1 → get_or groups k 0 ≡ 0
    last_longer k from below = elim (cases_eq k position) [
      | inl same ↦ rw same zero
      | inr before ↦ so_far.last k from (omega (arith, below, before))
    ]

    edge_longer : (j m : ℕ) → IsZeroRun groups j m → j + m ≡ position + 1 → j < start → ⊥
    edge_longer j m run ends before =
        so_far.edge j (m - 1) (shorter groups j m (m - 1) (omega arith) run)
        (omega (arith, ends, before, so_far.within)) before

    -- a run that ends with this group begins no earlier than the last one
    no_earlier : (j m : ℕ) → IsZeroRun groups j m → j + m ≡ position + 1 → start ≤ j
    no_earlier j m run ends = elim (cases_lt j start) [
      | inl before ↦ absurd (edge_longer j m run ends before)
      | inr from ↦ from
    ]

    pub past_longer : n < position + 1 - start → Scanned groups (position + 1) start start (position + 1 - start)
    past_longer more = record {
      within = omega (arith, so_far.within);
      last = last_longer;
      edge = edge_longer;
      ends = omega (arith, so_far.within);
      zeros = λ k from below. last_longer k from (omega (arith, below, so_far.within));
      longest = λ j m run ends. elim (cases_lt position (j + m)) [
        | inl past ↦ omega (arith, no_earlier j m run (omega (arith, past, ends)), ends)
        | inr before ↦ omega (arith, so_far.longest j m run before, more)
      ];
      leftmost = λ j some run ends. elim (cases_lt position (j + (position + 1 - start))) [
        | inl past ↦ no_earlier j (position + 1 - start) run (omega (arith, past, ends))
        | inr before ↦ absurd (omega (arith, so_far.longest j (position + 1 - start) run before, more))
      ];
    }

    pub past_zero : position + 1 - start ≤ n → Scanned groups (position + 1) start i n
    past_zero few = record {
      within = omega (arith, so_far.within);
      last = last_longer;
      edge = edge_longer;
      ends = omega (arith, so_far.ends);
      zeros = so_far.zeros;
      longest = λ j m run ends. elim (cases_lt position (j + m)) [
        | inl past ↦ omega (arith, no_earlier j m run (omega (arith, past, ends)), ends, few)
        | inr before ↦ so_far.longest j m run before
      ];
      leftmost = λ j some run ends. elim (cases_lt position (j + n)) [
        | inl past ↦ omega (arith, no_earlier j n run (omega (arith, past, ends)), so_far.ends, past, ends)
        | inr before ↦ so_far.leftmost j some run before
      ];
    }

pub scanned_all : (groups : List ℕ) (position start i n : ℕ) → length groups ≡ position
    → Scanned groups position start i n → IsLongestRun groups i n
scanned_all groups position start i n all scan = record {
  zeros = record { there = omega (arith, scan.ends, all); zero_groups = scan.zeros };
  longest = λ j m run. scan.longest j m run (omega (arith, run.there, all));
  leftmost = λ j some run. scan.leftmost j some run (omega (arith, run.there, all));
}
