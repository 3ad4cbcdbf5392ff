-- The refused lines of lists.
use Rattle.std.specs.Prelude.{ℕ, ◌+◌, ◌^◌, ◌-◌, min, List, [], ◌∷◌, ◌++◌, length, nat_lt, if◌then◌else◌}
use Rattle.lists.specs.declared.refusals.Refusal.{Refusal}

-- the refused lines that are kept, which are the first hundred, and how many more there were
pub record Refused : Type 0 where
  pub kept : List Refusal
  pub more : ℕ

-- no line was refused
abbrev pub no_refusals : Refused
no_refusals = record { kept = []; more = 0 }

-- the refused lines with one more, which is kept if fewer than a hundred are, and else only counted, up to the greatest
-- number of 64 bits
abbrev pub with_refusal : Refused → Refusal → Refused
with_refusal refused refusal =
    if nat_lt (length refused.kept) 100 then record { kept = refused.kept ++ refusal ∷ []; more = refused.more }
    else record { kept = refused.kept; more = min (refused.more + 1) (2 ^ 64 - 1) }
