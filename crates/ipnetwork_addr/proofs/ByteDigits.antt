-- The bytes of a number by position are its digits in base 256. Also used by `ipnetwork_witness`.
use Rattle.ipnetwork_addr.proofs.Words.{◌≡◌, ℕ, zero, suc, ◌/◌, ◌%◌, ◌^◌, [], ◌∷◌, ◌++◌, refl, sym, ap, ap₂, ◌∙◌, div-div-eq-div-mul, pow-succ', byte_at, bytes_high_first, digits_in}

byte_above : (k n : ℕ) → byte_at (suc k) n ≡ byte_at k (n / 256)
byte_above zero n = refl
byte_above (suc k) n =
    ap (λ d. d % 256) (ap (λ p. n / p) (pow-succ' 256 (suc k)) ∙ sym (div-div-eq-div-mul n 256 (256 ^ suc k)))

last_byte : (k n : ℕ) → bytes_high_first (suc k) n ≡ bytes_high_first k (n / 256) ++ n % 256 ∷ []
last_byte zero n = refl
last_byte (suc k) n = ap₂ (λ x xs. x ∷ xs) (byte_above k n) (last_byte k n)

pub digits_in-bytes : (k n : ℕ) → bytes_high_first k n ≡ digits_in 256 k n
digits_in-bytes zero n = refl
digits_in-bytes (suc k) n = last_byte k n ∙ ap (λ xs. xs ++ n % 256 ∷ []) (digits_in-bytes k (n / 256))
