-- What is escaped in lines and words: each byte alone, each hidden character, and bytes of no character.
use Rattle.program.proofs.Words.{◌≡◌, ℕ, zero, suc, ◌+◌, ◌%◌, List, [], ◌∷◌, ◌++◌, refl, map, flat_map, codes, escaped, escaped_word, hex_digit}
use Rattle.std.specs.Char.{encode_utf8}
use Rattle.std.specs.Prelude.{◌/◌}

-- numbers from `first` on
abbrev from : ℕ → ℕ → List ℕ
from first zero = []
from first (suc count) = first ∷ from (suc first) count

-- a byte by its two hexadecimal digits
abbrev coded : ℕ → List ℕ
coded byte = codes "\\x" ++ hex_digit (byte / 16) ∷ hex_digit (byte % 16) ∷ []

-- a byte alone is shown from the blank to `~`, the tab only in a line
pub each_byte_of_a_word : map (λ (byte : ℕ). escaped_word (byte ∷ [])) (from 0 256)
    ≡ map coded (from 0 32) ++ map (λ (byte : ℕ). byte ∷ []) (from 32 95) ++ map coded (from 127 129)
each_byte_of_a_word = refl

pub each_byte_of_a_line : map (λ (byte : ℕ). escaped (byte ∷ [])) (from 0 256)
    ≡ map coded (from 0 9) ++ (9 ∷ []) ∷ map coded (from 10 22) ++ map (λ (byte : ℕ). byte ∷ []) (from 32 95)
    ++ map coded (from 127 129)
each_byte_of_a_line = refl

-- of the characters just before, in and just after each run of hidden ones, those in it are escaped, in a line as in a
-- word
abbrev run_of : ℕ → ℕ → List (List ℕ)
run_of first count = map encode_utf8 (from first count)

abbrev is_shown : ℕ → ℕ → (List ℕ → List ℕ) → Type 0
is_shown first count show = map show (run_of first (count + 2)) ≡ run_of first 1
    ++ map (flat_map coded) (run_of (first + 1) count) ++ run_of (first + count + 1) 1

abbrev hides : (List ℕ → List ℕ) → Type 0
hides show = is_shown 0xAC 1 show × is_shown 0x34E 1 show × is_shown 0x61B 1 show × is_shown 0x115E 2 show
    × is_shown 0x17B3 2 show × is_shown 0x180A 5 show × is_shown 0x200A 5 show × is_shown 0x2027 7 show
    × is_shown 0x205F 16 show × is_shown 0x3163 1 show × is_shown 0xFDFF 16 show × is_shown 0xFEFE 1 show
    × is_shown 0xFF9F 1 show × is_shown 0xFFEF 12 show × is_shown 0x1BC9F 4 show × is_shown 0x1D172 8 show

pub hidden_in_a_line : hides escaped
unfolding encode_utf8
hidden_in_a_line = (refl, refl, refl, refl, refl, refl, refl, refl, refl, refl, refl, refl, refl, refl, refl, refl)

pub hidden_in_a_word : hides escaped_word
unfolding encode_utf8
hidden_in_a_word = (refl, refl, refl, refl, refl, refl, refl, refl, refl, refl, refl, refl, refl, refl, refl, refl)

-- tags and what else is from U+E0000 to U+E0FFF are hidden, the characters around are not
pub tags_are_hidden : map escaped (map encode_utf8 (0xDFFFF ∷ 0xE0000 ∷ 0xE0041 ∷ 0xE01EF ∷ 0xE0FFF ∷ 0xE1000 ∷ []))
    ≡ encode_utf8 0xDFFFF ∷ map (flat_map coded) (map encode_utf8 (0xE0000 ∷ 0xE0041 ∷ 0xE01EF ∷ 0xE0FFF ∷ []))
    ++ encode_utf8 0xE1000 ∷ []
unfolding encode_utf8
tags_are_hidden = refl

-- U+0080 to U+009F are hidden, U+00A0 is not
pub controls_of_utf8 : map escaped (run_of 0x80 33) ≡ map (flat_map coded) (run_of 0x80 32)
    ++ run_of 0xA0 1
unfolding encode_utf8
controls_of_utf8 = refl

-- characters of each length are shown; too short or too long a form, a surrogate, what is past the greatest character,
-- and bytes that are in none are not, and what follows them is
pub characters_and_none : map escaped (map encode_utf8 (0x7E ∷ 0x7FF ∷ 0x800 ∷ 0xFFFF ∷ 0x10000 ∷ 0x10FFFF ∷ [])
    ++ (0xC1 ∷ 0xBF ∷ 0x41 ∷ []) ∷ (0xE0 ∷ 0x9F ∷ 0xBF ∷ []) ∷ (0xED ∷ 0xA0 ∷ 0x80 ∷ [])
    ∷ (0xF0 ∷ 0x8F ∷ 0xBF ∷ 0xBF ∷ []) ∷ (0xF4 ∷ 0x90 ∷ 0x80 ∷ 0x80 ∷ []) ∷ (0xE2 ∷ 0x82 ∷ 0xC3 ∷ 0xA9 ∷ [])
    ∷ (0xF0 ∷ 0x9F ∷ 0x98 ∷ []) ∷ [])
    ≡ map encode_utf8 (0x7E ∷ 0x7FF ∷ 0x800 ∷ 0xFFFF ∷ 0x10000 ∷ 0x10FFFF ∷ [])
    ++ codes "\\xc1\\xbfA" ∷ codes "\\xe0\\x9f\\xbf" ∷ codes "\\xed\\xa0\\x80"
    ∷ codes "\\xf0\\x8f\\xbf\\xbf" ∷ codes "\\xf4\\x90\\x80\\x80" ∷ (codes "\\xe2\\x82" ++ 0xC3 ∷ 0xA9 ∷ [])
    ∷ codes "\\xf0\\x9f\\x98" ∷ []
unfolding encode_utf8
characters_and_none = refl
