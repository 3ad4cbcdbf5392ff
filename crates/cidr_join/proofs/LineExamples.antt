-- Lines of lists at which a misreading of the definitions would show.
use Rattle.cidr_join.proofs.Words.{◌≡◌, ◌∷◌, [], List, ℕ, map, not, Some, refl, codes, filter, range_with_len, is_blank, is_gap, is_name, is_word, comment_len, comment_words, is_skipped, entry_part, value_of, value_behind, addresses_of, are_alike, digits, gap_below, v6_of, true, false}
use Rattle.ipnetwork_addr.specs.declared.ip.IpAddr.TheVariants.{V4}

-- of the 256 bytes, all but a tab, a space and a comma belong to a word, and all but these, `#`, `-` and `;` to a name
pub no_words : filter (λ byte. not (is_word byte)) (range_with_len 0 256) ≡ 9 ∷ 32 ∷ 44 ∷ []
no_words = refl

pub no_names : filter (λ byte. not (is_name byte)) (range_with_len 0 256) ≡ 9 ∷ 32 ∷ 35 ∷ 44 ∷ 45 ∷ 59 ∷ []
no_names = refl

-- a tab, a carriage return and a space are blanks, a tab and a space are around a `-`, and no other byte does either
pub blanks : filter is_blank (range_with_len 0 256) ≡ 9 ∷ 13 ∷ 32 ∷ []
blanks = refl

pub gaps : filter is_gap (range_with_len 0 256) ≡ 9 ∷ 32 ∷ []
gaps = refl

-- a `-` after a comma belongs to the value, and any other to the entry, even a second one, which makes it no entry
pub entries_and_values : map {B = List ℕ × List ℕ} (λ text. (entry_part text, value_of text))
    (codes "10.0.0.0/8 a - b" ∷ codes "::1\t- \t::9\ta - b" ∷ codes "::1- ::9,-a" ∷ codes "::1-::9\t-" ∷ codes "::1 , - a"
    ∷ codes "::1 - ::3 - ::9 a" ∷ [])
    ≡ (codes "10.0.0.0/8", codes "a - b") ∷ (codes "::1\t- \t::9", codes "a - b") ∷ (codes "::1- ::9", codes "-a")
    ∷ (codes "::1-::9\t-", []) ∷ (codes "::1", codes "- a") ∷ (codes "::1 - ::3 - ::9", codes "a") ∷ []
entries_and_values = refl

-- `#` or `;` directly after a network or a range begins a comment, which belongs to the entry, and after a blank or a
-- comma a value
pub comments_and_values : map {B = List ℕ × List ℕ} (λ text. (entry_part text, value_of text))
    (codes "10.0.0.0/8; ::/0;" ∷ codes "::/8#,x" ∷ codes "::1 -\t::9;" ∷ codes "::1# - ::9" ∷ codes "::/8 ; x" ∷ codes "::/8,#"
    ∷ codes "::1 -#::9" ∷ [])
    ≡ (codes "10.0.0.0/8; ::/0;", []) ∷ (codes "::/8#,x", []) ∷ (codes "::1 -\t::9;", []) ∷ (codes "::1# - ::9", [])
    ∷ (codes "::/8", codes "; x") ∷ (codes "::/8", codes "#") ∷ (codes "::1 -#::9", []) ∷ []
comments_and_values = refl

-- the first words of a comment are between its marks, and of the 256 bytes `#` and `;` are these
pub first_words : map comment_words (codes ";#\t ::/8 # ::9" ∷ codes "; SBL256894;" ∷ codes "#" ∷ codes "; ::1 - ::9 " ∷ [])
    ≡ codes "::/8 " ∷ codes "SBL256894" ∷ [] ∷ codes "::1 - ::9 " ∷ []
first_words = refl

pub marks : filter (λ byte. is_skipped (byte ∷ [])) (range_with_len 0 256) ≡ 35 ∷ 59 ∷ []
marks = refl

pub comment_lens : map comment_len ([] ∷ codes "#" ∷ codes "; ::" ∷ codes " #" ∷ codes "a;" ∷ [])
    ≡ 0 ∷ 1 ∷ 4 ∷ 0 ∷ 0 ∷ []
comment_lens = refl

-- the first two fields of a line of iptoasn or DB-IP are two addresses, here of 1.0.0.0 to 1.0.0.255, and the others
-- the value after them
pub two_fields : map addresses_of (codes "1.0.0.0\t1.0.0.255\t13335\tUS" ∷ codes "1.0.0.0,1.0.0.255,AU" ∷ [])
    ≡ Some (record { first = V4 16777216; second = V4 16777471 })
    ∷ Some (record { first = V4 16777216; second = V4 16777471 }) ∷ []
unfolding addresses_of digits v6_of gap_below
two_fields = refl

pub other_fields : map (λ text. value_behind (value_of text))
    (codes "1.0.0.0\t1.0.0.255\t13335\tUS" ∷ codes "1.0.0.0 , 1.0.0.255 , AU" ∷ codes "1.0.0.0 1.0.0.255" ∷ [])
    ≡ codes "13335\tUS" ∷ codes "AU" ∷ [] ∷ []
other_fields = refl

-- they may be of two families; after a network with a slash, a range, or another word there is no second one
pub families : map (λ text. are_alike (addresses_of text))
    (codes "::1 ::2" ∷ codes "1.0.0.0 ::2" ∷ codes "::1,1.0.0.0" ∷ codes "1.0.0.2 1.0.0.1" ∷ codes "1.0.0.0/8 1.0.0.1"
    ∷ codes "1.0.0.0-1.0.0.1 1.0.0.2" ∷ codes "1.0.0.0 1.0.0.1/32" ∷ codes "1.0.0.0 AS1 1.0.0.1" ∷ codes "1.0.0.0" ∷ [])
    ≡ true ∷ false ∷ false ∷ true ∷ false ∷ false ∷ false ∷ false ∷ false ∷ []
unfolding addresses_of digits v6_of gap_below
families = refl
