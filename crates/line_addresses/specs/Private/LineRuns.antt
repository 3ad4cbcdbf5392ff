-- The end of a run, and the address found in it.
use Rattle.std.specs.Prelude.{◌≡◌, ℕ, ◌<◌, ◌≤◌, Bool, true, false, not, List, Option, Some, length, slice_index, take}
use Rattle.ipnetwork_addr.specs.declared.ip.IpAddr.{IpAddr}
use Rattle.line_addresses.specs.Addresses.{Spelled}
use Rattle.line_addresses.specs.LineRuns.{is_run_byte}
use Rattle.line_addresses.specs.Networks.{is_stretch_byte}
use Rattle.line_addresses.specs.Words.{is_blank}

-- `end` is the first index from `start` on at which the test holds, or the length of the line if there is none
pub record IsPartEnd (cuts : ℕ → Bool) (line : List ℕ) (start end : ℕ) : Type 0 where
  pub behind : start ≤ end
  pub within : end ≤ length line
  pub before : (position : ℕ) → start ≤ position → position < end → cuts (slice_index line position) ≡ false
  pub stops : end < length line → cuts (slice_index line end) ≡ true

abbrev pub IsRunEnd : List ℕ → ℕ → ℕ → Type 0
IsRunEnd line start end = IsPartEnd (λ byte. not (is_run_byte byte)) line start end

abbrev pub IsStretchEnd : List ℕ → ℕ → ℕ → Type 0
IsStretchEnd line start end = IsPartEnd (λ byte. not (is_stretch_byte byte)) line start end

abbrev pub IsWordEnd : List ℕ → ℕ → ℕ → Type 0
IsWordEnd line start end = IsPartEnd is_blank line start end

-- the address found in the run is this one, and its text is the first `size` bytes of the run
pub record Shows (found : Option Spelled) (run : List ℕ) (address : IpAddr) (size : ℕ) : Type 0 where
  pub within : size ≤ length run
  pub is : found ≡ Some (record { text = take size run; address = address })
