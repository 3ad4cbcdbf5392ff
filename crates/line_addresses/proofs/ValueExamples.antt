-- Lines that would expose a misreading of what follows a text. Each of these computes.
use Rattle.line_addresses.proofs.Words.{◌≡◌, ℕ, List, [], ◌∷◌, ◌++◌, refl, codes, map, Option, None, Some, digits, v6_of, gap_below, address_of, before_port, begun_by, behind_word, address_in, following, value_after}

abbrev follows : List ℕ → Option (List ℕ)
follows line = following (codes "src=") line

-- the text does not count inside a name
pub names : map follows (codes "src=1" ∷ codes "a src=1" ∷ codes "{src=1" ∷ codes "orig_src=2 src=1" ∷ [])
    ≡ Some (codes "1") ∷ Some (codes "1") ∷ Some (codes "1") ∷ Some (codes "1") ∷ []
names = refl

pub inside_names : map follows (codes "orig_src=1" ∷ codes "orig-src=1" ∷ codes "a.src=1" ∷ codes "xsrc=1" ∷ codes
    "7src=1" ∷ []) ≡ None ∷ None ∷ None ∷ None ∷ None ∷ []
inside_names = refl

abbrev value : List ℕ → Option (List ℕ)
value line = value_after (codes "ip:") line

abbrev ten : Option (List ℕ)
ten = Some (codes "10.1.1.1 x")

-- a quotation mark, and two of them
abbrev quote : List ℕ
quote = 34 ∷ []

pub values : map value (codes "ip:10.1.1.1 x" ∷ codes "ip: [10.1.1.1 x" ∷ (codes "ip: [" ++ quote ++ codes "10.1.1.1 x")
    ∷ (codes "ip:" ++ quote ++ codes "'10.1.1.1 x") ∷ []) ≡ ten ∷ ten ∷ ten ∷ ten ∷ []
unfolding address_in behind_word begun_by before_port address_of digits v6_of gap_below
values = refl

-- a value without an address at its beginning
pub no_values : map value (codes "ip:null, 10.1.1.1" ∷ (codes "ip:" ++ quote ++ quote ++ codes ", 10.1.1.1")
    ∷ (codes "ip:" ++ quote ++ quote ++ codes " 10.1.1.1") ∷ codes "ip:- 10.1.1.1" ∷ codes "ip:/10.1.1.1"
    ∷ codes "ip:- ip:10.1.1.1" ∷ codes "zip:10.1.1.1" ∷ []) ≡ None ∷ None ∷ None ∷ None ∷ None ∷ None ∷ None ∷ []
unfolding address_in behind_word begun_by before_port address_of digits v6_of gap_below
no_values = refl
