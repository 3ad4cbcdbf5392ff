-- Places: values at which a misreading of the definitions would show, and lemmas.
use Rattle.line_addresses.proofs.Words.{◌≡◌, ℕ, ◌+◌, ◌-◌, List, [], ◌∷◌, map, Bool, true, ◌&&◌, refl, ap, codes, length, list_all, is_ascii_digit, nat_le, nat_lt, if◌then◌else◌, Some, None, number_of, ordinal_in, fields_of, words_of, at_place, place_in, place_text, digits}
use Rattle.line_addresses.specs.declared.place.Place.TheVariants as places

are_four : (a b c d : Bool) → a ≡ true → b ≡ true → c ≡ true → d ≡ true → (a && b && c && d) ≡ true
are_four a b c d p q r s = rw (p, q, r, s)

pub number_in_decimal : number_of (codes "4294967295") ≡ 4294967295
number_in_decimal = refl

pub ordinals : map ordinal_in (map codes ("4294967295" ∷ "4294967296" ∷ "01" ∷ "0" ∷ "+1" ∷ []))
    ≡ Some 4294967295 ∷ None ∷ Some 1 ∷ None ∷ None ∷ []
ordinals = refl

-- every other number in digits is one of these
pub any_ordinal : (text : List ℕ) → nat_lt 0 (length text) ≡ true → list_all is_ascii_digit text ≡ true
    → nat_lt 0 (number_of text) ≡ true → nat_le (number_of text) 4294967295 ≡ true
    → ordinal_in text ≡ Some (number_of text)
any_ordinal text some digits above below =
    ap (λ b. if b then Some (number_of text) else None) (are_four (nat_lt 0 (length text)) (list_all is_ascii_digit
    text) (nat_lt 0 (number_of text)) (nat_le (number_of text) 4294967295) some digits above below)

pub ordinals_of_many_digits : map ordinal_in (codes "18446744073709551616" ∷ codes "18446744073709551617"
    ∷ codes "42949672960000000000" ∷ codes "00000000004294967295" ∷ codes "000000000000000000001"
    ∷ codes "00000000000000000000" ∷ [])
    ≡ None ∷ None ∷ None ∷ Some 4294967295 ∷ Some 1 ∷ None ∷ []
ordinals_of_many_digits = refl

pub places_read : map place_in (codes "7" ∷ codes "007" ∷ codes "0" ∷ codes "" ∷ codes "7 " ∷ [])
    ≡ Some (places.Number 7) ∷ Some (places.Number 7) ∷ None ∷ None ∷ None ∷ []
places_read = refl

pub places_read_from_the_end : map place_in (codes "-1" ∷ codes "-04294967295" ∷ codes "-0" ∷ codes "-" ∷ codes "--1"
    ∷ codes "-+1" ∷ codes "1-" ∷ codes "-4294967296" ∷ codes "-18446744073709551617" ∷ [])
    ≡ Some (places.FromEnd 1) ∷ Some (places.FromEnd 4294967295) ∷ None ∷ None ∷ None ∷ None ∷ None ∷ None ∷ None ∷ []
places_read_from_the_end = refl

pub places_written : map place_text (places.Number 7 ∷ places.Number 4294967295 ∷ places.FromEnd 12 ∷ [])
    ≡ codes "7" ∷ codes "4294967295" ∷ codes "-12" ∷ []
unfolding digits
places_written = refl

pub parts_at_places : map (λ place. at_place place (codes "a" ∷ codes "b" ∷ [])) (places.Number 1 ∷ places.Number 2
    ∷ places.Number 3 ∷ places.FromEnd 1 ∷ places.FromEnd 2 ∷ places.FromEnd 3 ∷ [])
    ≡ Some (codes "a") ∷ Some (codes "b") ∷ None ∷ Some (codes "b") ∷ Some (codes "a") ∷ None ∷ []
parts_at_places = refl

-- the last field is empty after a separator, and the last word is the one before the blanks that end a line
pub last_parts : at_place (places.FromEnd 1) (fields_of 44 (codes "a,b,")) ≡ Some []
last_parts = refl

pub last_words : map (λ number. at_place (places.FromEnd number) (words_of (codes " a  b "))) (1 ∷ 2 ∷ 3 ∷ [])
    ≡ Some (codes "b") ∷ Some (codes "a") ∷ None ∷ []
last_words = refl
