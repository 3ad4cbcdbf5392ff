-- Lists that were not read.
use Rattle.std.specs.Prelude.{ℕ}
use Rattle.lists.specs.declared.bytes.BytesFault.{BytesFault}
use Rattle.lists.specs.declared.bytes.BytesFault.TheVariants as bytes
use Rattle.lists.specs.declared.named.ReadFault.{ReadFault}
use Rattle.lists.specs.declared.named.ReadFault.TheVariants.{Open, Read, OutOfMemory}

-- why a list could not be read, with the number of its word; a list may have any length
abbrev pub not_read : ℕ → BytesFault → ReadFault
not_read number (bytes.Open cause) = Open number cause
not_read number bytes.Read = Read number
not_read number bytes.Length = OutOfMemory
not_read number bytes.OutOfMemory = OutOfMemory
