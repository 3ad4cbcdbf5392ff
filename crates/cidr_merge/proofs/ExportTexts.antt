-- Exports are texts that are written one after the other.
use Rattle.cidr_merge.proofs.Words.{◌≡◌, ◌||◌, ◌↔◌, Bool, IsTrue, true, false, not, List, [], ◌∷◌, ◌∙◌, ℕ, refl, sym, ap, concat, None, Names, ipset_foot, ipset_head, is_any}

-- whether blocks were printed by now: yes if this family has one, else if the other family, which comes first, had
pub there_is_one : {X : Type 0} (follows : Bool) (all rest : List X) (x : X) → all ≡ x ∷ rest
    → true ≡ (follows || is_any all)
there_is_one true all rest x e = refl
there_is_one false all rest x e = sym (ap is_any e)

pub there_is_none : {X : Type 0} (follows : Bool) (all : List X) → all ≡ []
    → follows ≡ (follows || is_any all)
there_is_none true all e = refl
there_is_none false all e = sym (ap is_any e)

pub any_unless_empty : {X : Type 0} (all : List X) (empty : Bool) → IsTrue empty ↔ (all ≡ []) → not empty ≡ is_any all
any_unless_empty [] true h = refl
any_unless_empty [] false h = sym (h.1 refl)
any_unless_empty (x ∷ all) true h = let e : x ∷ all ≡ [] = h.0 refl in cc
any_unless_empty (x ∷ all) false h = refl

-- the lines of ipset for both families, if no family is looked at alone
pub head_of_both : (names : Names) (set limit : List ℕ) → set ≡ names.set → limit ≡ names.limit → names.only ≡ None
    → concat (ipset_head (record names { set = set; limit = limit }) None) ≡ concat (ipset_head names names.only)
head_of_both names set limit s l o =
    ap (λ (s : List ℕ). concat (ipset_head (record names { set = s; limit = limit }) None)) s
    ∙ ap (λ (l : List ℕ). concat (ipset_head (record names { limit = l }) None)) l
    ∙ ap (λ only. concat (ipset_head names only)) (sym o)

pub foot_of_both : (names : Names) (set : List ℕ) → set ≡ names.set → names.only ≡ None
    → concat (ipset_foot (record names { set = set }) None) ≡ concat (ipset_foot names names.only)
foot_of_both names set s o =
    ap (λ (s : List ℕ). concat (ipset_foot (record names { set = s }) None)) s
    ∙ ap (λ only. concat (ipset_foot names only)) (sym o)
