-- The numbers from a base on, in parts of 2 ^ shift numbers each.
use Rattle.std.specs.Prelude.{ℕ, ◌+◌, ◌*◌, ◌^◌, ◌<◌, ◌≤◌}

-- there are 2 ^ bits parts: at most `most`, and, if bits is less than 20, more than `least`
pub record HasParts (least most bits : ℕ) : Type 0 where
  pub more : bits < 20 → least < 2 ^ bits
  pub within : 2 ^ bits ≤ most

-- x is in this part of those from `base` on, the last of which is `last`. The first part also contains all numbers
-- before it, and the last part all numbers after it
pub record IsPart (x base shift last part : ℕ) : Type 0 where
  pub within : part ≤ last
  pub from : 1 ≤ part → base + part * 2 ^ shift ≤ x
  pub to : part < last → x < base + (part + 1) * 2 ^ shift
