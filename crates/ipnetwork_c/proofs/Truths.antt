-- A Boolean as a byte, and an order as a 32-bit number.
use Rattle.ipnetwork_c.proofs.Words.{◌≡◌, ◌↔◌, ℕ, ℤ, to_z, of_z, w32, Bool, true, false, IsTrue, arith, refl, All, from_bool, Ordering, Less, Equal, Greater, Network, order_number, PrefixFits, IsFlag}
use Rattle.std.specs.Prelude.{List}

pub no_true : IsTrue false → ⊥
no_true t = cc

pub says : (P : Type 0) (b : Bool) (byte : ℕ) → byte ≡ from_bool b → (IsTrue b ↔ P) → IsFlag P byte
says P true byte is iff = (omega (arith, is), ((λ _. iff.0 refl), (λ _. is)))
says P false byte is iff =
    (omega (arith, is), ((λ one. absurd (omega (arith, is, one))), (λ p. absurd (no_true (iff.1 p)))))

pub order_kept : (order : Ordering) (z : ℤ) → z ≡ order_number order → to_z w32 (of_z w32 z) ≡ order_number order
order_kept Less z is = rw is refl
order_kept Equal z is = rw is refl
order_kept Greater z is = rw is refl

-- two equivalent statements about each row
pub fits_too : {C : Type 0} (holds : C → Type 0) (held : C → Network) (w : ℕ) → ((c : C)
    → holds c ↔ PrefixFits w (held c)) → (list : List C) → All holds list → All (λ c. PrefixFits w (held c)) list
fits_too holds held w same list all k d l = (same _).0 (all k d l)
