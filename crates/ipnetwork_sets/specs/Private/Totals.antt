-- Numbers of addresses, capped at 2^128.
use Rattle.std.specs.Prelude.{ℕ, ◌^◌, min}

-- the number, or 2^128 if it is greater
abbrev pub capped : ℕ → ℕ
capped n = min n (2 ^ 128)
