-- How contracts see a `Watched`.
use Rattle.std.specs.Prelude.{ℕ, Bool, true, ◌&&◌, List, length, nat_lt, ◌==◌, Result, Ok, Err}
use Rattle.lines.specs.declared.watched.Watched.{Watched}
use Rattle.lines.specs.Private.Device.{inner_of, failed_of}

-- the device that is watched
abbrev pub device_of : {D : Type 0} → Watched D → D
device_of watched = inner_of watched.device

-- whether a call of the device failed
abbrev pub has_failed : {D : Type 0} → Watched D → Bool
has_failed watched = failed_of watched.device

-- whether a write of these bytes failed
abbrev pub write_fails : {E : Type 0} → Result ℕ E → List ℕ → Bool
-- a write that was given bytes but took none failed
write_fails (Ok count) bytes = (count == 0) && nat_lt 0 (length bytes)
-- a write that returned an error failed
write_fails (Err error) bytes = true
