-- Values of options at which a misreading of the definitions would show.
use Rattle.options.proofs.Words.{◌≡◌, ℕ, List, [], ◌∷◌, map, Bool, true, false, not, ◌&&◌, ◌==◌, refl, bytes_eq, codes, nat_lt, Some, None, is_some, number_in, ordinal_in, lengths_in, is_right}
use Rattle.options.specs.declared.table.Kind.TheVariants as kinds

are_all : (a b c d : Bool) → a ≡ true → b ≡ false → c ≡ false → d ≡ false → (a && not b && not c && not d) ≡ true
are_all a b c d p q r s = rw (p, q, r, s)

-- a comma, a tab, the last byte of ASCII and the one after it, NUL, LF and CR
pub separators : map (is_right kinds.Separator) ((44 ∷ []) ∷ (9 ∷ []) ∷ (127 ∷ []) ∷ (128 ∷ []) ∷ (0 ∷ []) ∷ (10 ∷ [])
    ∷ (13 ∷ []) ∷ []) ≡ true ∷ true ∷ true ∷ false ∷ false ∷ false ∷ false ∷ []
separators = refl

-- every other byte of ASCII separates fields
pub any_separator : (byte : ℕ) → nat_lt byte 128 ≡ true → (byte == 10) ≡ false → (byte == 13) ≡ false
    → (byte == 0) ≡ false → is_right kinds.Separator (byte ∷ []) ≡ true
any_separator byte small feed return zero = are_all (nat_lt byte 128) (byte == 10) (byte == 13) (byte == 0) small
    feed return zero

-- a number that 64 bits do not hold counts as the greatest that they do
pub numbers : map number_in (codes "12" ∷ codes "0" ∷ codes "-1" ∷ [] ∷ codes "1 " ∷ codes "0x1" ∷ []) ≡ Some 12
    ∷ Some 0 ∷ None ∷ None ∷ None ∷ None ∷ []
numbers = refl

pub twenty_digits : map number_in (codes "9999999999999999999" ∷ codes "10000000000000000000"
    ∷ codes "18446744073709551614" ∷ codes "18446744073709551615" ∷ codes "18446744073709551616"
    ∷ codes "99999999999999999999" ∷ [])
    ≡ Some 9999999999999999999 ∷ Some 10000000000000000000 ∷ Some 18446744073709551614 ∷ Some 18446744073709551615
    ∷ Some 18446744073709551615 ∷ Some 18446744073709551615 ∷ []
twenty_digits = refl

-- more than twenty digits, and zeros before others
pub more_digits : map number_in (codes "100000000000000000000" ∷ codes "184467440737095516150"
    ∷ codes "340282366920938463463374607431768211456" ∷ codes "000000000000000000000"
    ∷ codes "0000000000000000000005" ∷ codes "00018446744073709551616" ∷ [])
    ≡ Some 18446744073709551615 ∷ Some 18446744073709551615 ∷ Some 18446744073709551615 ∷ Some 0 ∷ Some 5
    ∷ Some 18446744073709551615 ∷ []
more_digits = refl

pub lengths_of_many_digits : map lengths_in (codes "00000000000000000000024,000000000000000000000064"
    ∷ codes "18446744073709551640,64" ∷ codes "24,18446744073709551680" ∷ []) ≡ Some (24, 64) ∷ None ∷ None ∷ []
lengths_of_many_digits = refl

pub lengths : map lengths_in (codes "24,064" ∷ codes "32,128" ∷ codes "33,0" ∷ codes "0,129" ∷ codes "24"
    ∷ codes "24,64,1" ∷ codes ",64" ∷ [])
    ≡ Some (24, 64) ∷ Some (32, 128) ∷ None ∷ None ∷ None ∷ None ∷ None ∷ []
lengths = refl

pub places : map (is_right kinds.Nth) (codes "first" ∷ codes "last" ∷ codes "2" ∷ codes "0" ∷ codes "Last" ∷ []
    ∷ codes "all" ∷ codes "each" ∷ codes "lastx" ∷ codes "+1" ∷ [])
    ≡ true ∷ true ∷ true ∷ false ∷ false ∷ false ∷ false ∷ false ∷ false ∷ false ∷ []
places = refl

-- every other text is right only as a number
pub any_place : (text : List ℕ) → bytes_eq text (codes "first") ≡ false → bytes_eq text (codes "last") ≡ false
    → is_right kinds.Nth text ≡ is_some (ordinal_in text)
any_place text first last = rw (first, last) refl

pub rules : map (is_right kinds.Rule) (codes "drop" ∷ codes "keep" ∷ codes "stop" ∷ codes "report" ∷ codes "Stop" ∷ []
    ∷ []) ≡ true ∷ true ∷ true ∷ true ∷ false ∷ false ∷ []
rules = refl

pub forms : map (is_right kinds.Form) (codes "csv" ∷ codes "ipset" ∷ codes "nft" ∷ codes "json" ∷ codes "Csv" ∷ []
    ∷ []) ≡ true ∷ true ∷ true ∷ false ∷ false ∷ false ∷ []
forms = refl
