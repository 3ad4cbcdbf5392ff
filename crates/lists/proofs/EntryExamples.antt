-- Values at which a misreading of the definitions would show.
use Rattle.lists.proofs.Words.{◌≡◌, ◌≢◌, ◌∷◌, ◌++◌, [], ℕ, true, false, refl, codes, None, Some, ne_eqb, encoding_of, ByteOrderMark, Utf16, Gzip, Nul, is_blank, begins_comment, entry_text}
use Rattle.std.proofs.Common.{map}

-- a space and a tab are blanks, and no other byte is
pub a_space_and_a_tab_are_blank : (is_blank 32 ≡ true) × (is_blank 9 ≡ true)
a_space_and_a_tab_are_blank = (refl, refl)

pub no_other_blank : (byte : ℕ) → byte ≢ 32 → byte ≢ 9 → is_blank byte ≡ false
no_other_blank byte space tab = rw (ne_eqb byte 32 space, ne_eqb byte 9 tab)

-- a `#` and a `;` begin a comment, and no other byte does
pub a_number_sign_and_a_semicolon_begin_a_comment : (begins_comment 35 ≡ true) × (begins_comment 59 ≡ true)
a_number_sign_and_a_semicolon_begin_a_comment = (refl, refl)

pub no_other_comment : (byte : ℕ) → byte ≢ 35 → byte ≢ 59 → begins_comment byte ≡ false
no_other_comment byte sign semicolon = rw (ne_eqb byte 35 sign, ne_eqb byte 59 semicolon)

pub what_is_left_of_a_line : entry_text (codes " \t::1 \t# ;") ≡ codes "::1"
what_is_left_of_a_line = refl

-- a mark counts at the beginning and as a whole, a NUL byte anywhere
pub encodings : map encoding_of ((239 ∷ 187 ∷ 191 ∷ codes "::") ∷ (255 ∷ 254 ∷ []) ∷ (254 ∷ 255 ∷ 0 ∷ [])
    ∷ (31 ∷ 139 ∷ 0 ∷ []) ∷ (codes "::" ++ 0 ∷ []) ∷ [])
    ≡ Some ByteOrderMark ∷ Some Utf16 ∷ Some Utf16 ∷ Some Gzip ∷ Some Nul ∷ []
encodings = refl

pub no_encodings : map encoding_of ((239 ∷ 187 ∷ []) ∷ (32 ∷ 239 ∷ 187 ∷ 191 ∷ []) ∷ (255 ∷ []) ∷ (254 ∷ 254 ∷ [])
    ∷ (139 ∷ 31 ∷ []) ∷ codes "::" ∷ [] ∷ [])
    ≡ None ∷ None ∷ None ∷ None ∷ None ∷ None ∷ None ∷ []
no_encodings = refl
