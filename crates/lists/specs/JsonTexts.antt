-- The JSON documents that a text is.
use Rattle.std.specs.Prelude.{◌==◌, ◌||◌, ℕ, Bool, List, [], ◌∷◌, ◌++◌, Option, None, Some, option_and_then, option_map}
use Rattle.std.specs.Prelude.{if◌then◌else◌}
use Rattle.std.specs.List.{list_all}
use Rattle.std.specs.Str.Lines.{lines}
use Rattle.serde_json.specs.Data.{Data}
use Rattle.serde_json.specs.Read.{read}

-- the byte is a blank of JSON: a space (32), a tab (9), an LF (10) or a CR (13)
abbrev pub is_json_blank : ℕ → Bool
is_json_blank byte = ((byte == 32 || byte == 9) || byte == 10) || byte == 13

-- the document of a line; none if it is blank, and `None` if it is neither
abbrev pub document_of_line : List ℕ → Option (List Data)
document_of_line line =
    if list_all is_json_blank line then Some [] else option_map (λ document. document ∷ []) (read line)

-- the documents of lines, in order; `None` if a line that is not blank is none
abbrev pub documents_of_lines : List (List ℕ) → Option (List Data)
documents_of_lines [] = Some []
documents_of_lines (line ∷ lines) =
    option_and_then (λ some. option_map (λ others. some ++ others) (documents_of_lines lines)) (document_of_line line)

-- the documents, unless there is none
abbrev pub if_any : Option (List Data) → Option (List Data)
if_any None = None
if_any (Some []) = None
if_any (Some (first ∷ others)) = Some (first ∷ others)

-- the document that a text is, or, if it is none, those of its lines
abbrev pub document_or_lines : Option Data → List ℕ → Option (List Data)
document_or_lines (Some document) text = Some (document ∷ [])
document_or_lines None text = if_any (documents_of_lines (lines text))

-- the documents of a text: the one that it is, of at most 127 levels, or, if it is none, those of its lines, at least
-- one; `None` if it is neither
abbrev pub documents_of : List ℕ → Option (List Data)
documents_of text = document_or_lines (read text) text
