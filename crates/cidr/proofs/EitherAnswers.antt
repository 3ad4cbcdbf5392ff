-- The answers of the commands that work on both families.
use Rattle.cidr.proofs.Words.{◌≡◌, ◌↔◌, Bool, true, false, Option, None, Some, Ok, IsTrue, refl, sym, ap, ◌∙◌, result_ok, answer_from}

-- the value in a result
pub value_of : {A E : Type 0} (error : E) (o : Option A) → result_ok (answer_from error o) ≡ o
value_of error None = refl
value_of error (Some value) = refl

pub value_from : {A E : Type 0} (error : E) (o : Option A) (value : A) → Ok value ≡ answer_from error o → o ≡ Some value
value_from error o value e = sym (ap result_ok e ∙ value_of error o)

no_truth : false ≡ true → ⊥
no_truth e = cc

-- two tests of the same fact have the same result
pub same_test : (s t : Bool) (P : Type 0) → (IsTrue s ↔ P) → (IsTrue t ↔ P) → s ≡ t
same_test true true P h k = refl
same_test true false P h k = absurd (no_truth (k.1 (h.0 refl)))
same_test false true P h k = absurd (no_truth (h.1 (k.0 refl)))
same_test false false P h k = refl
