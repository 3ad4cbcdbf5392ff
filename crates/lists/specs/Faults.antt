-- Why a line is refused, as messages report it.
use Rattle.std.specs.Prelude.{ℕ, List, codes}
use Rattle.lists.specs.Encodings.{encoding_text}
use Rattle.lists.specs.declared.entry.EntryFault.{EntryFault}
use Rattle.lists.specs.declared.entry.EntryFault.TheVariants.{Format, Address, Prefix, Range, Encoding, Second, HostBits, Mask}
use Rattle.lists.specs.declared.fault.LineFault.{LineFault}
use Rattle.lists.specs.declared.fault.LineFault.TheVariants.{Entry, Length}

-- the word for the fault of an entry, or the name of the entry's encoding
abbrev pub entry_fault_text : EntryFault → List ℕ
entry_fault_text Format = codes "format"
entry_fault_text Address = codes "address"
entry_fault_text Prefix = codes "prefix"
entry_fault_text Range = codes "range"
entry_fault_text (Encoding encoding) = encoding_text encoding
entry_fault_text Second = codes "second entry"
entry_fault_text HostBits = codes "host bits"
entry_fault_text Mask = codes "mask or wildcard"

-- the word for the fault of a line: that of its entry, or `length` if the line is too long
abbrev pub line_fault_text : LineFault → List ℕ
line_fault_text (Entry fault) = entry_fault_text fault
line_fault_text Length = codes "length"
