-- Words that are wrong.
use Rattle.cidr_merge.proofs.Words.{◌≡◌, ◌||◌, ◌∙◌, Bool, ap, refl, option_or, is_some, Option, None, Some}

some_of_either : {X : Type 0} (one other : Option X) → is_some (option_or one other) ≡ (is_some one || is_some other)
some_of_either None other = refl
some_of_either (Some x) other = refl

-- there is one of two faults exactly if one of two things is wrong
pub is_either : {X : Type 0} (both one other : Option X) (first second : Bool) → both ≡ option_or one other
    → is_some one ≡ first → is_some other ≡ second → is_some both ≡ (first || second)
is_either both one other first second e f s =
    ap is_some e ∙ some_of_either one other ∙ ap (λ b. b || is_some other) f ∙ ap (λ b. first || b) s
