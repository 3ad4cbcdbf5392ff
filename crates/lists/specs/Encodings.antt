-- Texts that are not plain text.
use Rattle.std.specs.Prelude.{ℕ, ◌==◌, ◌||◌, Bool, List, [], ◌∷◌, Option, None, Some, length, take}
use Rattle.std.specs.Prelude.{bytes_eq, codes, if◌then◌else◌}
use Rattle.std.specs.List.{list_any}
use Rattle.lists.specs.declared.encoding.Encoding.{Encoding}
use Rattle.lists.specs.declared.encoding.Encoding.TheVariants.{ByteOrderMark, Utf16, Gzip, Nul}

-- the second text begins with the first
abbrev pub begins : List ℕ → List ℕ → Bool
begins first text = bytes_eq (take (length first) text) first

-- the text begins with U+FEFF in UTF-16, of either byte order
abbrev pub is_utf16 : List ℕ → Bool
is_utf16 text = begins (255 ∷ 254 ∷ []) text || begins (254 ∷ 255 ∷ []) text

-- the text has a NUL byte
abbrev pub has_nul : List ℕ → Bool
has_nul text = list_any (λ byte. byte == 0) text

-- what a text is, if it is not plain text: UTF-8 after a byte order mark (EF BB BF), UTF-16 after a byte order mark,
-- gzip data (1F 8B; RFC 1952, section 2.3.1), or a text that has a NUL byte
abbrev pub encoding_of : List ℕ → Option Encoding
encoding_of text =
    if begins (239 ∷ 187 ∷ 191 ∷ []) text then Some ByteOrderMark
    else if is_utf16 text then Some Utf16
    else if begins (31 ∷ 139 ∷ []) text then Some Gzip
    else if has_nul text then Some Nul
    else None

-- the name of an encoding in messages
abbrev pub encoding_text : Encoding → List ℕ
encoding_text ByteOrderMark = codes "byte order mark"
encoding_text Utf16 = codes "UTF-16 text"
encoding_text Gzip = codes "gzip data"
encoding_text Nul = codes "NUL byte"
