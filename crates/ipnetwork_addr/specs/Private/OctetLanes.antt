-- The octets of an IPv4 text in the lanes of a vector. A row is a combination of the numbers of digits of the four
-- octets.
use Rattle.std.specs.Prelude.{◌≡◌, ℕ, ◌+◌, ◌-◌, ◌/◌, ◌%◌, ◌<◌, ◌≤◌, List, [], ◌∷◌, ◌++◌, length, map, take, drop}
use Rattle.std.specs.Prelude.{slice_index, nat_le, nat_lt, ◌==◌, if◌then◌else◌}
use Rattle.ipnetwork_addr.specs.Ipv4Text.{IsOctet}
use Rattle.ipnetwork_addr.specs.Texts.{dot}

-- the position of a byte of a text of `count` bytes in the text's first eight bytes followed by its last eight, or 255
-- past the end of the text
abbrev pub joined_position : ℕ → ℕ → ℕ
joined_position count position =
    if nat_lt position 8 then position
    else (if nat_lt position count then position + 16 - count else 255)

abbrev pub sixteen : List ℕ
sixteen = 0 ∷ 1 ∷ 2 ∷ 3 ∷ 4 ∷ 5 ∷ 6 ∷ 7 ∷ 8 ∷ 9 ∷ 10 ∷ 11 ∷ 12 ∷ 13 ∷ 14 ∷ 15 ∷ []

abbrev pub joined_positions : ℕ → List ℕ
joined_positions count = map (joined_position count) sixteen

-- the number of digits of each octet
abbrev pub first_count : ℕ → ℕ
first_count row = row / 27 + 1

abbrev pub second_count : ℕ → ℕ
second_count row = row / 9 % 3 + 1

abbrev pub third_count : ℕ → ℕ
third_count row = row / 3 % 3 + 1

abbrev pub fourth_count : ℕ → ℕ
fourth_count row = row % 3 + 1

-- the position of each octet after the first, and the length of the text
abbrev pub second_at : ℕ → ℕ
second_at row = first_count row + 1

abbrev pub third_at : ℕ → ℕ
third_at row = second_at row + second_count row + 1

abbrev pub fourth_at : ℕ → ℕ
fourth_at row = third_at row + third_count row + 1

abbrev pub end_of : ℕ → ℕ
end_of row = fourth_at row + fourth_count row

-- the positions of the hundreds, tens and ones of an octet of `count` digits that begins at `at`; 128 for a missing
-- digit
abbrev pub digit_positions : ℕ → ℕ → List ℕ
digit_positions at count =
    (if nat_lt count 3 then 128 else at) ∷ (if nat_lt count 2 then 128 else at + count - 2) ∷ (at + count - 1) ∷ []

-- the positions of the digits and dots of a row
abbrev pub row_positions : ℕ → List ℕ
row_positions row =
    digit_positions 0 (first_count row) ++ (first_count row)
    ∷ (digit_positions (second_at row) (second_count row) ++ (second_at row + second_count row)
    ∷ (digit_positions (third_at row) (third_count row) ++ (third_at row + third_count row)
    ∷ (digit_positions (fourth_at row) (fourth_count row) ++ 128 ∷ [])))

-- the lane at a position, or 0 if the position is 128 or more
abbrev pub lane_at : List ℕ → ℕ → ℕ
lane_at lanes position = if nat_le 128 position then 0 else slice_index lanes position

-- how far the byte at a position is above `0`, modulo 256
abbrev pub digit_in : List ℕ → ℕ → ℕ
digit_in bytes position = lane_at (map (λ byte. (byte + 208) % 256) bytes) position

abbrev pub AreDigitsOf : List ℕ → ℕ → List ℕ → Type 0
AreDigitsOf bytes row digits = digits ≡ map (digit_in bytes) (row_positions row)

-- the least digits of an octet of `count` digits: if it has several, the first is not zero
abbrev pub least_digits : ℕ → List ℕ
least_digits count = (if nat_lt count 3 then 0 else 1) ∷ (if count == 2 then 1 else 0) ∷ 0 ∷ []

-- the least value of each lane of a row: of its digits, and 254 for a dot
abbrev pub row_least : ℕ → List ℕ
row_least row =
    least_digits (first_count row) ++ 254
    ∷ (least_digits (second_count row) ++ 254
    ∷ (least_digits (third_count row) ++ 254 ∷ (least_digits (fourth_count row) ++ 0 ∷ [])))

-- each of the sixteen lanes is at least the lane of `least`
abbrev pub AreAtLeast : List ℕ → List ℕ → Type 0
AreAtLeast lanes least = (k : ℕ) → k < 16 → slice_index least k ≤ slice_index lanes k

-- the bytes begin with four octets joined by dots, with the row's numbers of digits
pub record AreOctetsOf (bytes : List ℕ) (row : ℕ) (octets : List ℕ) : Type 0 where
  pub first : IsOctet (take (first_count row) bytes) (slice_index octets 0)
  pub first_dot : slice_index bytes (first_count row) ≡ dot
  pub second : IsOctet (take (second_count row) (drop (second_at row) bytes)) (slice_index octets 1)
  pub second_dot : slice_index bytes (second_at row + second_count row) ≡ dot
  pub third : IsOctet (take (third_count row) (drop (third_at row) bytes)) (slice_index octets 2)
  pub third_dot : slice_index bytes (third_at row + third_count row) ≡ dot
  pub fourth : IsOctet (take (fourth_count row) (drop (fourth_at row) bytes)) (slice_index octets 3)
  pub four : length octets ≡ 4
