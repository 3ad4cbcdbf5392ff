-- How bytes are read as JSON documents.
use Rattle.std.specs.Prelude.{◌≡◌, ◌<◌, ℕ, IsUtf8, List, [], ◌∷◌, length, Option, None, Some}
use Rattle.std.specs.Str.Lines.{lines}
use Rattle.serde_json.specs.Data.{Data}
use Rattle.serde_json.specs.View.{view}
use Rattle.serde_json.specs.declared.value.Value.{Value}
use Rattle.lists.specs.Encodings.{encoding_of}
use Rattle.lists.specs.JsonTexts.{document_of_line, documents_of, documents_of_lines, if_any}
use Rattle.lists.specs.declared.json_texts.LinesFault.{LinesFault}
use Rattle.lists.specs.declared.json_texts.LinesFault.TheVariants as unread
use Rattle.lists.specs.declared.named.ReadFault.{ReadFault}
use Rattle.lists.specs.declared.named.ReadFault.TheVariants.{Open, Read, Length, NotJson, Cut, NoField, OutOfMemory}

-- the documents of the lines of a text, if there is one and all lines that are not blank are some
abbrev pub are_documents_of_lines : List ℕ → Option (List Data)
are_documents_of_lines text = if_any (documents_of_lines (lines text))

-- the documents of a line: the one that was found, or none
abbrev pub documents_in : Option Value → List Data
documents_in None = []
documents_in (Some document) = view document ∷ []

-- this is why a line is not read as a document
abbrev pub FailsLine : List ℕ → LinesFault → Type 0
-- it is none, and not blank
FailsLine line (unread.NotJson told) = document_of_line line ≡ None
-- memory ran out for it
FailsLine line unread.OutOfMemory = 0 < length line

-- this is why the lines of a text are not read as documents
abbrev pub FailsLines : List ℕ → LinesFault → Type 0
-- they are not documents
FailsLines text (unread.NotJson line) = are_documents_of_lines text ≡ None
-- memory ran out for one
FailsLines text unread.OutOfMemory = 0 < length text

-- this is why bytes, whose name is the word of this number, are not read as documents
abbrev pub FailsDocuments : ℕ → List ℕ → ReadFault → Type 0
-- these five faults do not occur: the bytes were read, and may have any end and lack any fields
FailsDocuments number bytes (Open place cause) = ⊥
FailsDocuments number bytes (Read place) = ⊥
FailsDocuments number bytes (Length place) = ⊥
FailsDocuments number bytes (Cut place) = ⊥
FailsDocuments number bytes (NoField place field) = ⊥
-- the bytes are none, and have this encoding
FailsDocuments number bytes (NotJson place line encoding) = (place ≡ number) × (IsUtf8 bytes → documents_of bytes ≡ None)
    × (encoding ≡ encoding_of bytes)
-- memory ran out for one
FailsDocuments number bytes OutOfMemory = 0 < length bytes
