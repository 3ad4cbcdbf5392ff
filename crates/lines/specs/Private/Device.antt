-- How contracts see a `Device`.
use Rattle.std.specs.Prelude.{Bool}
use Rattle.lines.specs.declared.watched.device.Device.{Device}

-- the reader or writer
abbrev pub inner_of : {D : Type 0} → Device D → D
inner_of device = device.inner

-- whether a call of the reader or writer failed
abbrev pub failed_of : {D : Type 0} → Device D → Bool
failed_of device = device.failed
