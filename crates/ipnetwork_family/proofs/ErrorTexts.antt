-- Errors of different kinds print different texts.
use Rattle.ipnetwork_family.proofs.Words.{◌≡◌, inl, inr, ap, refl, arith, get_or, SameErrorPrintsTheSame, FormatFaultIsPrinted, Refusal, BadAddress, BadPrefix, BadFormat, BadSize, RanOutOfMemory, refusal_of, refusal_text, NetworkIsTooLarge}
use Rattle.std.specs.Prelude.{drop}

-- the byte at index 8 differs between kinds
apart : (a b : Refusal) → ¬ (get_or (refusal_text a) 8 0 ≡ get_or (refusal_text b) 8 0)
    → refusal_text a ≡ refusal_text b → a ≡ b
apart a b differ e = absurd (differ (ap (λ text. get_or text 8 0) e))

one_refusal : (a b : Refusal) → refusal_text a ≡ refusal_text b → a ≡ b
one_refusal (BadAddress x) (BadAddress y) = ap (λ text. BadAddress (drop 17 text))
one_refusal BadPrefix BadPrefix = λ e. refl
one_refusal (BadFormat x) (BadFormat y) = ap (λ text. BadFormat (drop 21 text))
one_refusal (BadSize NetworkIsTooLarge) (BadSize NetworkIsTooLarge) = λ e. refl
one_refusal RanOutOfMemory RanOutOfMemory = λ e. refl
one_refusal _ _ = apart _ _ (λ same. first_of (cc, omega (arith, same)))

pub same_text : SameErrorPrintsTheSame
same_text a b = (ap refusal_text, one_refusal (refusal_of a) (refusal_of b))

pub format_printed : FormatFaultIsPrinted
format_printed kind text error (inl e) = inl (ap refusal_text e)
format_printed kind text error (inr e) = inr e
