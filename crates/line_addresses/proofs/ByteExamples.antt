-- What each of the 256 bytes is in a name, before a value, at the end of a run, in a port and in a number. Each of these
-- computes.
use Rattle.line_addresses.proofs.Words.{◌≡◌, ◌==◌, ℕ, Bool, List, [], ◌∷◌, true, false, refl, codes, map, filter, range_with_len, is_some, digits_at_end, has_dot, is_mark, is_name_byte, is_port, opens, ordinal_in, place_in}

abbrev bytes : List ℕ
bytes = range_with_len 0 256

pub name_bytes : filter is_name_byte bytes
    ≡ codes "-.0123456789ABCDEFGHIJKLMNOPQRSTUVWXYZ_abcdefghijklmnopqrstuvwxyz"
name_bytes = refl

-- before a value; of two equal quotation marks only the first
pub openers : (filter (opens 0) bytes ≡ codes "\t \"'[") × (filter (opens 34) bytes ≡ codes "\t '[")
    × (filter (opens 39) bytes ≡ codes "\t \"[")
openers = (refl, refl, refl)

pub marks : filter is_mark bytes ≡ codes ".:"
marks = refl

-- a port is a colon and one to five digits
pub digits_of_ports : filter (λ byte. digits_at_end (byte ∷ codes "0") == 2) bytes ≡ codes "0123456789"
digits_of_ports = refl

pub before_digits_of_ports : filter (λ byte. is_port 2 (byte ∷ codes "80")) bytes ≡ codes ":"
before_digits_of_ports = refl

abbrev ends_with_port : List ℕ → Bool
ends_with_port text = is_port (digits_at_end text) text

pub ports : map ends_with_port ([] ∷ codes ":" ∷ codes ":0" ∷ codes "a:65536" ∷ codes ":100000" ∷ codes ":8x"
    ∷ codes "80" ∷ codes ":8:80" ∷ codes ":80:" ∷ [])
    ≡ false ∷ false ∷ true ∷ true ∷ false ∷ false ∷ false ∷ true ∷ false ∷ []
ports = refl

pub dots : filter (λ byte. has_dot (byte ∷ codes "1")) bytes ≡ codes "."
dots = refl

-- before a 1, a number has digits and a place also a `-`
pub digits_of_numbers : filter (λ byte. is_some (ordinal_in (byte ∷ codes "1"))) bytes ≡ codes "0123456789"
digits_of_numbers = refl

pub bytes_of_places : filter (λ byte. is_some (place_in (byte ∷ codes "1"))) bytes ≡ codes "-0123456789"
bytes_of_places = refl
