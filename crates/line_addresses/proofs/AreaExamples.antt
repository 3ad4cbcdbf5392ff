-- Fields, and the addresses that are picked in areas of a line, at values at which a misreading of the definitions would
-- show. Each of these computes.
use Rattle.line_addresses.proofs.Words.{◌≡◌, ℕ, Bool, true, false, List, [], ◌∷◌, refl, codes, map, None, Some, digits, v6_of, gap_below, address_of, before_port, begun_by, behind_word, address_in, named_network, network_begun_by, network_in, field_of, fields_of, words_of, Part, Pick, spelled_in}
use Rattle.line_addresses.specs.declared.area.Part.TheVariants.{Line, Field, Word, After}
use Rattle.line_addresses.specs.declared.area.Pick.TheVariants.{Whole, Each, Last}
use Rattle.line_addresses.specs.declared.area.Pick.TheVariants as picks
use Rattle.line_addresses.specs.declared.place.Place.TheVariants.{Number, FromEnd}

-- ---- fields and words

-- a line has one field more than separators, of which some may be empty; no word is
pub fields : map (fields_of 44) (codes ",a,,b" ∷ codes "," ∷ [] ∷ [])
    ≡ ([] ∷ codes "a" ∷ [] ∷ codes "b" ∷ []) ∷ ([] ∷ [] ∷ []) ∷ ([] ∷ []) ∷ []
fields = refl

pub numbered_fields : map (λ number. field_of number 44 (codes "a,b")) (1 ∷ 2 ∷ 3 ∷ []) ≡ Some (codes "a")
    ∷ Some (codes "b") ∷ None ∷ []
numbered_fields = refl

pub no_words : map words_of ([] ∷ codes " \t" ∷ []) ≡ [] ∷ [] ∷ []
no_words = refl

-- ---- what is picked

abbrev line : List ℕ
line = codes "10.1.1.1 x=10.2.2.0/24,10.3.3.3 ::"

abbrev found : Bool → Part → Pick → List (List ℕ)
found networks part pick = map (λ one. one.text) (spelled_in networks (record { part = part; pick = pick }) line)

-- anywhere in the line
abbrev picked : Bool → List (List (List ℕ))
picked networks = map (found networks Line) (Whole ∷ Each ∷ picks.Number 1 ∷ picks.Number 4 ∷ picks.Number 5 ∷ Last ∷ [])

pub addresses : picked false ≡ [] ∷ (codes "10.1.1.1" ∷ codes "10.2.2.0" ∷ codes "10.3.3.3" ∷ codes "::" ∷ [])
    ∷ (codes "10.1.1.1" ∷ []) ∷ (codes "::" ∷ []) ∷ [] ∷ (codes "::" ∷ []) ∷ []
unfolding address_in behind_word begun_by before_port address_of digits v6_of gap_below
addresses = refl

pub networks : picked true ≡ [] ∷ (codes "10.1.1.1" ∷ codes "10.2.2.0/24" ∷ codes "10.3.3.3" ∷ codes "::" ∷ [])
    ∷ (codes "10.1.1.1" ∷ []) ∷ (codes "::" ∷ []) ∷ [] ∷ (codes "::" ∷ []) ∷ []
unfolding network_in network_begun_by named_network address_in behind_word begun_by before_port address_of digits v6_of
    gap_below
networks = refl

-- a whole part is an address, and nothing else is in it
pub whole : map (λ part. found false part Whole) (Word (Number 1) ∷ Word (FromEnd 1) ∷ Word (Number 2)
    ∷ Field (Number 2) 44 ∷ Field (FromEnd 1) 32 ∷ After (codes "x=") ∷ [])
    ≡ (codes "10.1.1.1" ∷ []) ∷ (codes "::" ∷ []) ∷ [] ∷ [] ∷ (codes "::" ∷ []) ∷ [] ∷ []
unfolding address_in behind_word begun_by before_port address_of digits v6_of gap_below
whole = refl

-- the first and the last of a part, which is all after a text
pub in_parts : (found false (Word (Number 2)) Last ≡ codes "10.3.3.3" ∷ [])
    × (found false (After (codes "x=")) (picks.Number 1) ≡ codes "10.2.2.0" ∷ [])
    × (found false (After (codes "x=")) Last ≡ codes "::" ∷ [])
    × (found false (After (codes "y=")) Each ≡ [])
unfolding address_in behind_word begun_by before_port address_of digits v6_of gap_below
in_parts = (refl, refl, refl, refl)
