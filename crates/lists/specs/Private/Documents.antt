-- What is taken of the bytes of a document.
use Rattle.std.specs.Prelude.{◌≡◌, ◌<◌, ◌⊎◌, ℕ, Bool, true, List, length}
use Rattle.lists.specs.Encodings.{encoding_of}
use Rattle.lists.specs.Documents.{AreNoDocuments, LackField, TakesDocuments}
use Rattle.lists.specs.Lists.{ReadLists, at_list}
use Rattle.lists.specs.declared.chosen.Strings.{Strings}
use Rattle.lists.specs.declared.bytes.BytesFault.{BytesFault}
use Rattle.lists.specs.declared.bytes.BytesFault.TheVariants as unread
use Rattle.lists.specs.declared.named.ReadFault.{ReadFault}
use Rattle.lists.specs.declared.named.ReadFault.TheVariants.{Open, Read, Length, NotJson, Cut, OutOfMemory, NoField}

-- why the document that the word of this number names was not read, by the fault of its bytes
abbrev pub not_read : ℕ → BytesFault → ReadFault
not_read number (unread.Open cause) = Open number cause
not_read number unread.Read = Read number
not_read number unread.Length = Length number
not_read number unread.OutOfMemory = OutOfMemory

-- the bytes are documents whose strings are taken, and `out` says whether memory has run out
abbrev pub TakesBytes : Strings → ReadLists → List ℕ → ReadLists → Bool → Type 0
TakesBytes strings before bytes after out = TakesDocuments strings before bytes after × (after.is_out_of_memory ≡ out)

-- this is why the bytes are not taken as documents
abbrev pub FailsBytes : Strings → ℕ → List ℕ → ReadLists → ReadLists → ReadFault → Type 0
-- these four faults do not occur: the bytes were read, and may have any end
FailsBytes strings number bytes before after (Open place cause) = ⊥
FailsBytes strings number bytes before after (Read place) = ⊥
FailsBytes strings number bytes before after (Length place) = ⊥
FailsBytes strings number bytes before after (Cut place) = ⊥
-- the bytes are none, and nothing changes
FailsBytes strings number bytes before after (NotJson place line encoding) = (place ≡ number) × AreNoDocuments bytes
    × (encoding ≡ encoding_of bytes) × (after ≡ before)
-- they lack a field, and nothing changes
FailsBytes strings number bytes before after (NoField place field) = (place ≡ number) × LackField strings field bytes
    × (after ≡ before)
-- there was no memory for the documents, and nothing changes; or memory ran out for an entry of them
FailsBytes strings number bytes before after OutOfMemory = ((0 < length bytes) × (after ≡ before))
    ⊎ TakesBytes strings (at_list before number) bytes after true
