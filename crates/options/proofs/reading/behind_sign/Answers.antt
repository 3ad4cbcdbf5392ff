use Rattle.options.proofs.Known.{◌≡◌, ◌≢◌, ◌∷◌, [], ℕ, Bool, List, refl, sym, ap, inl, inr, if◌then◌else◌, arith, behind_sign, eqb_tells, strip_prefix_char}
use Rattle.std.proofs.Common.{None}
use Rattle.options.proofs.reading.behind_sign.Goals as goal

unsigned : (value : List ℕ) → ((more : List ℕ) → value ≢ 61 ∷ more) → value ≡ behind_sign value
unsigned [] none = refl
unsigned (byte ∷ []) none = refl
unsigned (byte ∷ next ∷ text) none =
    elim (eqb_tells byte 61) [
      | inl same ↦ absurd (none (next ∷ text) (ap (λ (n : ℕ). n ∷ next ∷ text) same.1))
      | inr apart ↦ sym (ap (λ (b : Bool). if b then next ∷ text else byte ∷ next ∷ text) apart.0)
    ]

pub returns-in-None : goal.returns-in-None
returns-in-None c = unsigned c.args.value.now
    (strip_prefix_char 61 c.args.value.now None c.in-None.ensures.cases (omega arith))
