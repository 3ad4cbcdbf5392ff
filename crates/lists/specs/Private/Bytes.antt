-- How the remaining bytes of a device are read.
use Rattle.std.specs.Prelude.{◌<◌, ℕ, Bool, IsTrue, List, length, Option}
use Rattle.std.specs.Io.KnownBytes.{Consumes, IsAtEnd}
use Rattle.lists.specs.declared.bytes.BytesFault.{BytesFault}
use Rattle.lists.specs.declared.bytes.BytesFault.TheVariants.{Open, Read, Length, OutOfMemory}

-- these bytes were read, and none remain
abbrev pub ReadsAll : Option (List ℕ) → Option (List ℕ) → List ℕ → Type 0
ReadsAll remained remains bytes = Consumes remained remains bytes × IsAtEnd remains

-- more than `least` bytes were read
abbrev pub ReadsMore : ℕ → Option (List ℕ) → Option (List ℕ) → Type 0
ReadsMore least remained remains = (read : List ℕ) × Consumes remained remains read × (least < length read)

-- the bytes were not read to the end, for this reason
abbrev pub StopsReading : Option (List ℕ) → Option (List ℕ) → Bool → ℕ → BytesFault → Type 0
-- this fault does not occur: the device is open
StopsReading remained remains failed most (Open cause) = ⊥
-- a read failed
StopsReading remained remains failed most Read = IsTrue failed
-- more than `most` bytes were read
StopsReading remained remains failed most Length = ReadsMore most remained remains
-- at least one byte was read, and there was no memory for it
StopsReading remained remains failed most OutOfMemory = ReadsMore 0 remained remains
