-- The shortest decimal form of a byte, digit by digit.
use Rattle.ipnetwork_addr.proofs.Words.{◌≡◌, ℕ, ◌+◌, ◌/◌, ◌%◌, ◌<◌, ◌≤◌, List, [], ◌∷◌, ◌++◌, decimal, ap, ◌∙◌, arith, append_assoc, decimal_digit, decimal_step, encode_ascii}
use Rattle.std.proofs.lemmas.List.{length-append}

-- the length of a text after a byte is pushed
pub ruleset pushing = (encode_ascii, length-append)

pub decimal_two : (n : ℕ) → 10 ≤ n → n < 100 → decimal n ≡ (48 + n / 10) ∷ (48 + n % 10) ∷ []
decimal_two n low high =
    decimal_step n low (omega arith)
    ∙ ap (λ front. front ++ (48 + n % 10) ∷ []) (decimal_digit (n / 10) (omega arith))

pub decimal_three : (n : ℕ) → 100 ≤ n → n < 1000 → decimal n
    ≡ (48 + n / 100) ∷ (48 + n / 10 % 10) ∷ (48 + n % 10) ∷ []
decimal_three n low high =
    let hundreds : n / 10 / 10 ≡ n / 100 = omega arith in
    decimal_step n (omega arith) (omega arith)
    ∙ ap (λ front. front ++ (48 + n % 10) ∷ []) (decimal_two (n / 10) (omega arith) (omega arith)
    ∙ ap (λ d. (48 + d) ∷ (48 + n / 10 % 10) ∷ []) hundreds)

-- a text after a byte is pushed
pub record IsPushed (text : List ℕ) (byte : ℕ) (now : List ℕ) : Type 0 where
  pub is : now ≡ text ++ byte ∷ []

-- pushing a byte is pushing an equal one
pub pushed_as : (text now : List ℕ) (byte other : ℕ) → byte ≡ other → now ≡ text ++ byte ∷ []
    → IsPushed text other now
pushed_as text now byte other same pushed = record { is = pushed ∙ ap (λ b. text ++ b ∷ []) same }

-- a text after the digits of a number are pushed one at a time
pub one_pushed : {text one : List ℕ} (n : ℕ) → n < 10 → IsPushed text (48 + n) one → one
    ≡ text ++ decimal n
one_pushed n low h = h.is ∙ rw (decimal_digit n low)

pub two_pushed : {text one two : List ℕ} (n : ℕ) → 10 ≤ n → n < 100
    → IsPushed text (48 + n / 10) one → IsPushed one (48 + n % 10) two → two ≡ text ++ decimal n
two_pushed n low high h k = k.is ∙ rw (h.is, decimal_two n low high, append_assoc)

pub three_pushed : {text one two three : List ℕ} (n : ℕ) → 100 ≤ n → n < 1000
    → IsPushed text (48 + n / 100) one → IsPushed one (48 + n / 10 % 10) two
    → IsPushed two (48 + n % 10) three → three ≡ text ++ decimal n
three_pushed n low high h k l =
    l.is ∙ rw (k.is, h.is, decimal_three n low high, append_assoc, append_assoc)
