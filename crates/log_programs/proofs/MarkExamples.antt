-- Lines at which a misreading of the definition of the byte order mark would show.
use Rattle.log_programs.proofs.Words.{◌≡◌, ◌∷◌, ◌++◌, [], ℕ, List, map, refl, judged}
use Rattle.std.specs.Prelude.{◌≢◌, codes}
use Rattle.std.proofs.lemmas.Bool.{ne_eqb}

-- the mark is passed over as a whole, and once; what comes after it, be it nothing, is judged
pub marks : map (judged 0) ((239 ∷ 187 ∷ 191 ∷ codes "::1") ∷ (239 ∷ 187 ∷ 191 ∷ [])
    ∷ (239 ∷ 187 ∷ 191 ∷ 239 ∷ 187 ∷ 191 ∷ codes "::1") ∷ [])
    ≡ codes "::1" ∷ [] ∷ (239 ∷ 187 ∷ 191 ∷ codes "::1") ∷ []
marks = refl

-- a line is judged whole that begins with a part of the mark, with other bytes in its place, or with none
abbrev others : List (List ℕ)
others = [] ∷ (239 ∷ []) ∷ (239 ∷ 187 ∷ []) ∷ (239 ∷ codes "::1") ∷ (239 ∷ 187 ∷ codes "::1")
    ∷ (187 ∷ 191 ∷ codes "::1") ∷ (239 ∷ 191 ∷ 187 ∷ codes "::1") ∷ (238 ∷ 187 ∷ 191 ∷ []) ∷ (239 ∷ 186 ∷ 191 ∷ []) ∷ (239 ∷ 187 ∷ 190 ∷ [])
    ∷ (32 ∷ 239 ∷ 187 ∷ 191 ∷ []) ∷ (255 ∷ 254 ∷ []) ∷ (254 ∷ 255 ∷ []) ∷ codes "::1" ∷ []

pub no_marks : map (judged 0) others ≡ others
no_marks = refl

-- only the first line of a log has one
pub other_lines : (before : ℕ) (line : List ℕ) → before ≢ 0 → judged before line ≡ line
other_lines before line later = rw (ne_eqb before 0 later)
