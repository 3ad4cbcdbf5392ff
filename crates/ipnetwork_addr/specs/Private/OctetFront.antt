-- The octets that a text begins with.
use Rattle.std.specs.Prelude.{◌≡◌, ◌≢◌, ℕ, ◌*◌, ◌<◌, ◌≤◌, ◌⊎◌, List, [], ◌∷◌, ◌++◌, ◌==◌, drop, length, slice_index}
use Rattle.std.specs.Prelude.{Option, MatchOption, decimal, nat_lt, if◌then◌else◌}
use Rattle.std.specs.Char.{digit_value}
use Rattle.ipnetwork_addr.specs.Ipv4Text.{IsOctet}
use Rattle.ipnetwork_addr.specs.Texts.{dot}

-- ten times the value of a byte as the first of several decimal digits, or 2560 if it is `0` or no digit
abbrev pub first_value : ℕ → ℕ
first_value byte = if nat_lt (digit_value byte) 10
    then (if nat_lt 0 (digit_value byte) then digit_value byte * 10 else 2560) else 2560

-- the text is no octet
abbrev pub IsNoOctet : List ℕ → Type 0
IsNoOctet text = (octet : ℕ) → ¬ (IsOctet text octet)

-- `end` is the position of the first dot after one, two or three bytes
pub record IsOctetEnd (text : List ℕ) (end : ℕ) : Type 0 where
  pub some : 1 ≤ end
  pub few : end ≤ 3
  pub within : end < length text
  pub here : slice_index text end ≡ dot
  pub first : (i : ℕ) → 1 ≤ i → i < end → slice_index text i ≢ dot

-- there is no dot after one, two or three bytes
abbrev pub HasNoOctetEnd : List ℕ → Type 0
HasNoOctetEnd text = (i : ℕ) → 1 ≤ i → i ≤ 3 → slice_index text i ≢ dot

-- the text does not begin with a decimal digit
abbrev pub NoDigit : List ℕ → Type 0
NoDigit text = (slice_index text 0 < 48) ⊎ (57 < slice_index text 0)

-- the text is an octet, followed by the rest, which does not begin with a digit
pub record BeginsWithOctet (text : List ℕ) (octet : ℕ) (rest : List ℕ) : Type 0 where
  pub bound : octet ≤ 255
  pub split : text ≡ decimal octet ++ rest
  pub stops : NoDigit rest

-- the text does not begin with an octet and a dot
abbrev pub NoOctetAndDot : List ℕ → Type 0
NoOctetAndDot text = (octet : ℕ) (rest : List ℕ) → ¬ (BeginsWithOctet text octet (dot ∷ rest))

-- the octet that ends at the first dot from `at` on, and the position after that dot; none if there is no such octet
abbrev pub FindsOctet : List ℕ → ℕ → Option (ℕ × ℕ) → Type 0
FindsOctet text at result =
    MatchOption result (NoOctetAndDot (drop at text))
    (λ found. (found.1 ≤ length text) × BeginsWithOctet (drop at text) found.0 (dot ∷ drop found.1 text))

-- the bytes before a dot: the first two if the third is a dot, else all three
abbrev pub before_dot : ℕ → ℕ → ℕ → List ℕ
before_dot a b c = if c == dot then (a ∷ b ∷ []) else (a ∷ b ∷ c ∷ [])
