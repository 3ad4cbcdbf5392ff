-- The address that an IPv4 text names, computed.
use Rattle.std.specs.Prelude.{ℕ, ◌^◌, ◌==◌, nat_lt, bytes_eq, if◌then◌else◌, List, map, Option, None, Some}
use Rattle.std.specs.List.{slice_split}
use Rattle.std.specs.Int.Digits.{number_from_digits}
use Rattle.std.specs.Str.Parse.{digits_value}
use Rattle.ipnetwork_addr.specs.Ipv4Text.{canonical_v4}
use Rattle.ipnetwork_addr.specs.Texts.{dot}

-- the address that a text names, if it names one: split the text at its dots, take the decimals as the digits of a
-- number in base 256, and check that the canonical text of that number is the text
abbrev pub v4_of : List ℕ → Option ℕ
v4_of text =
    let address = number_from_digits 256 (map (digits_value 10) (slice_split (λ byte. byte == dot) text)) in
    if nat_lt address (2 ^ 32) then (if bytes_eq text (canonical_v4 address) then Some address else None) else None
