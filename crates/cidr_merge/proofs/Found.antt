-- The findings printed so far, and those that are left.
use Rattle.cidr_merge.proofs.Words.{◌≡◌, ◌==◌, ◌||◌, ◌∙◌, ℕ, Bool, true, false, not, List, [], ◌∷◌, ◌++◌, refl, sym, ap, subst, length, append_assoc, append-nil, concat, list_any, eqb-suc-zero, concat-append, Written, Reports, tells_more, tells_same, tells_nothing, IsFound, TellsFound}

is_some : (one : List ℕ) (found : List (List ℕ)) → not (length (one ∷ found) == 0) ≡ true
is_some one found = ap not (eqb-suc-zero (length found))

-- whether there is a finding in either of two lists
found_more : (found more : List (List ℕ)) (is_found is_more both : Bool)
    → IsFound found is_found → IsFound more is_more → both ≡ (is_found || is_more)
    → IsFound (found ++ more) both
found_more [] more is_found is_more both e f g = g ∙ ap (λ b. b || is_more) e ∙ f
found_more (one ∷ found) more is_found is_more both e f g =
    g ∙ ap (λ b. b || is_more) (e ∙ is_some one found) ∙ sym (is_some one (found ++ more))

pub tells_none : {W : Type 0} (old : Written W) → TellsFound [] old old false
tells_none old = (tells_nothing old, refl)

pub tells_one : {W : Type 0} (line : List ℕ) (old new : Written W) → Reports old new line
    → TellsFound (line ∷ []) old new true
tells_one line old new h = (tells_same old new line _ (sym (append-nil line)) h, refl)

pub tells_both : {W : Type 0} (found more : List (List ℕ)) (old mid new : Written W)
    (is_found is_more both : Bool) → TellsFound found old mid is_found
    → TellsFound more mid new is_more → both ≡ (is_found || is_more)
    → TellsFound (found ++ more) old new both
tells_both found more old mid new is_found is_more both h k e = (
  tells_same old new (concat found ++ concat more) (concat (found ++ more))
      (sym (concat-append found more))
      (tells_more old mid new (concat found) (concat more) h.0 k.0),
  found_more found more is_found is_more both h.1 k.1 e,
)

-- a part of all findings was printed, and these are left
abbrev pub ToldSoFar : {W : Type 0} → List (List ℕ) → List (List ℕ) → Written W → Written W → Bool
    → Type 0
ToldSoFar all left old new is_found =
    (found : List (List ℕ)) × (found ++ left ≡ all) × TellsFound found old new is_found

pub none_so_far : {W : Type 0} (all left : List (List ℕ)) (old : Written W) → left ≡ all
    → ToldSoFar all left old old false
none_so_far all left old e = ([], e, tells_none old)

pub more_so_far : {W : Type 0} (all left one rest : List (List ℕ)) (old mid new : Written W)
    (is_found is_more both : Bool) → ToldSoFar all left old mid is_found → left ≡ one ++ rest
    → TellsFound one mid new is_more → both ≡ (is_found || is_more)
    → ToldSoFar all rest old new both
more_so_far all left one rest old mid new is_found is_more both h e k b = (
  h.0 ++ one,
  append_assoc h.0 one rest ∙ ap (λ l. h.0 ++ l) (sym e) ∙ h.1,
  tells_both h.0 one old mid new is_found is_more both h.2 k b,
)

-- nothing is left
pub all_told : {W : Type 0} (all left : List (List ℕ)) (old new : Written W) (is_found : Bool)
    → ToldSoFar all left old new is_found → left ≡ [] → TellsFound all old new is_found
all_told all left old new is_found h e =
    subst (λ (found : List (List ℕ)). TellsFound found old new is_found)
    (sym (append-nil h.0) ∙ ap (λ l. h.0 ++ l) (sym e) ∙ h.1) h.2

-- ---- whether there is one

-- one of all elements is such exactly if one of the elements before was, or one of those that are left is
abbrev pub AnySoFar : {X : Type 0} → (X → Bool) → List X → List X → Bool → Type 0
AnySoFar test all left found = (found || list_any test left) ≡ list_any test all

or_assoc : (a b c : Bool) → ((a || b) || c) ≡ (a || (b || c))
or_assoc true b c = refl
or_assoc false b c = refl

pub any_more : {X : Type 0} (test : X → Bool) (all left rest : List X) (x : X) (found more both : Bool)
    → AnySoFar test all left found → left ≡ x ∷ rest → more ≡ test x → both ≡ (found || more)
    → AnySoFar test all rest both
any_more test all left rest x found more both h e k b =
    ap (λ f. f || list_any test rest) (b ∙ ap (λ m. found || m) k) ∙ or_assoc found (test x) (list_any test rest)
    ∙ ap (λ l. found || list_any test l) (sym e) ∙ h
