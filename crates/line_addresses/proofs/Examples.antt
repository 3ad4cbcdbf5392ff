-- Texts that would expose a misreading of the definitions. Each of these computes.
use Rattle.line_addresses.proofs.Words.{◌≡◌, ℕ, List, [], ◌∷◌, ◌++◌, refl, codes, map, filter, range_with_len, digits, v6_of, gap_below, V4, V6, Spelled, address_of, before_port, begun_by, behind_word, address_in, addresses_of, is_address_byte, is_run_byte, is_blank, words_of}

-- the address 10.1.1.1
abbrev ten : List Spelled
ten = record { text = codes "10.1.1.1"; address = V4 0x0a010101 } ∷ []

-- in quotation marks
abbrev quoted : List ℕ
quoted = 34 ∷ codes "10.1.1.1" ++ 34 ∷ []

pub shapes : map addresses_of (codes "10.1.1.1:51234" ∷ codes "[10.1.1.1]" ∷ quoted ∷ codes "SRC=10.1.1.1 x"
    ∷ codes "10.1.1.1," ∷ codes "to 10.1.1.1." ∷ codes "10.1.1.1: no" ∷ [])
    ≡ ten ∷ ten ∷ ten ∷ ten ∷ ten ∷ ten ∷ ten ∷ []
unfolding address_in behind_word begun_by before_port address_of digits v6_of gap_below
shapes = refl

-- after a word and a colon; a port may follow
pub behind_words : map addresses_of (codes "outside:10.1.1.1/443" ∷ codes "addr:10.1.1.1" ∷ codes "IP:10.1.1.1:80"
    ∷ codes "ip4:10.1.1.1." ∷ codes "cafe_1:10.1.1.1" ∷ []) ≡ ten ∷ ten ∷ ten ∷ ten ∷ ten ∷ []
unfolding address_in behind_word begun_by before_port address_of digits v6_of gap_below
behind_words = refl

-- a mark may follow a port
pub ports_and_marks : map addresses_of (codes "10.1.1.1:51234: EOF" ∷ codes "10.1.1.1:51234." ∷ codes "10.1.1.1:5:"
    ∷ codes "client:10.1.1.1:443:" ∷ []) ≡ ten ∷ ten ∷ ten ∷ ten ∷ []
unfolding address_in behind_word begun_by before_port address_of digits v6_of gap_below
ports_and_marks = refl

-- two marks, six digits, or no digits
pub no_ports_and_marks : map addresses_of (codes "10.1.1.1:51234::" ∷ codes "10.1.1.1:51234.:" ∷ codes
    "10.1.1.1:123456:" ∷ codes "10.1.1.1::" ∷ codes "10.1.1.1:80:443" ∷ codes "12:34:56:" ∷ codes "1.2.3.4.5:80:" ∷ [])
    ≡ [] ∷ [] ∷ [] ∷ [] ∷ [] ∷ [] ∷ [] ∷ []
unfolding address_in behind_word begun_by before_port address_of digits v6_of gap_below
no_ports_and_marks = refl

-- an IPv6 address: a port is one only after dots, where no other part of an address can be
pub ports_of_ipv6 : map (λ line. map (λ one. one.text) (addresses_of line)) (codes "::ffff:10.1.1.1:51234" ∷ codes
    "64:ff9b::10.1.1.1:443: x" ∷ codes "2001:db8::1:443" ∷ codes "2001:db8::1:443:" ∷ codes "2001:db8::1:51234" ∷ codes
    ":::80" ∷ []) ≡ (codes "::ffff:10.1.1.1" ∷ []) ∷ (codes "64:ff9b::10.1.1.1" ∷ []) ∷ (codes "2001:db8::1:443" ∷ [])
    ∷ (codes "2001:db8::1:443" ∷ []) ∷ [] ∷ [] ∷ []
unfolding address_in behind_word begun_by before_port address_of digits v6_of gap_below
ports_of_ipv6 = refl

-- what is before the colon may be of an address, or there are two words
pub behind_no_word : map addresses_of (codes "dad:10.1.1.1" ∷ codes "1.2:10.1.1.1" ∷ codes ":10.1.1.1" ∷ codes
    "tcp:in:10.1.1.1" ∷ codes "at12:34:56" ∷ []) ≡ [] ∷ [] ∷ [] ∷ [] ∷ [] ∷ []
unfolding address_in behind_word begun_by before_port address_of digits v6_of gap_below
behind_no_word = refl

pub brackets_and_port : addresses_of (codes "[2001:db8::1]:443")
    ≡ record { text = codes "2001:db8::1"; address = V6 0x20010db8000000000000000000000001 } ∷ []
unfolding address_in behind_word begun_by before_port address_of digits v6_of gap_below
brackets_and_port = refl

pub no_addresses : map addresses_of (codes "v10.1.2.3x" ∷ codes "1.2.3.4.5" ∷ codes "12:34:56" ∷ codes
    "00:1b:44:11:3a:b7" ∷ codes "da39a3ee5e6b" ∷ codes "10.1.1.1:123456" ∷ codes "10.1.1.1.." ∷ codes "_10.1.1.1" ∷ [])
    ≡ [] ∷ [] ∷ [] ∷ [] ∷ [] ∷ [] ∷ [] ∷ [] ∷ []
unfolding address_in behind_word begun_by before_port address_of digits v6_of gap_below
no_addresses = refl

pub words : words_of (codes " Nov  3 10:00 ") ≡ codes "Nov" ∷ codes "3" ∷ codes "10:00" ∷ []
words = refl

-- of the 256 bytes, the run bytes, and the blanks between words: a tab and a space
pub run_bytes : filter is_run_byte (range_with_len 0 256) ≡ codes
    ".0123456789:ABCDEFGHIJKLMNOPQRSTUVWXYZ_abcdefghijklmnopqrstuvwxyz"
run_bytes = refl

pub address_bytes : filter is_address_byte (range_with_len 0 256) ≡ codes ".0123456789:ABCDEFabcdef"
address_bytes = refl

pub blanks : filter is_blank (range_with_len 0 256) ≡ 9 ∷ 32 ∷ []
blanks = refl
