-- An address as its digits. An address is a number: of 32 bits for IPv4 (RFC 791, section 2.3), and of 128 bits for
-- IPv6 (RFC 4291, section 2).
use Rattle.std.specs.Prelude.{ℕ, zero, suc, ◌/◌, ◌%◌, ◌^◌, List, [], ◌∷◌, ◌++◌}

-- the last `count` digits of a number in the base, highest first
abbrev pub digits_in : ℕ → ℕ → ℕ → List ℕ
digits_in base zero n = []
digits_in base (suc count) n = digits_in base count (n / base) ++ n % base ∷ []

-- the octets of an IPv4 address: its four digits in base 256
abbrev pub octets_of : ℕ → List ℕ
octets_of address = digits_in 256 4 address

-- the octets of an IPv6 address: its sixteen digits in base 256
abbrev pub octets_of_v6 : ℕ → List ℕ
octets_of_v6 address = digits_in 256 16 address

-- the groups of an IPv6 address: its eight digits in base 2^16
abbrev pub segments_of : ℕ → List ℕ
segments_of address = digits_in (2 ^ 16) 8 address
