-- What follows from the laws of texts, and would not follow from weaker ones. The addresses are from RFC 5737, section
-- 3, and from RFC 5952.
use Rattle.ipnetwork_addr.proofs.Words.{◌≡◌, ℕ, ◌^◌, ◌-◌, ◌+◌, ◌*◌, ◌<◌, true, false, List, [], ◌∷◌, ◌++◌, Some, None, Option, Result, refl, ap, sym, arith, lit<, true≢false, codes, is_err, Ok, Err, digits, AllByRecursion, AddrParseError, IpAddr, V4, V6, NamesIp, FitsIp, canonical_ip, unmapped, ip_of, v4_of, canonical_v6, v6_of, gap_below, answer_from, IsOctet, IsPlainOctet, NamesV4, canonical_v4, IsCanonicalV6, NamesV6, Reads, IsAddressByte, colon_first}
use Rattle.std.specs.Prelude.{◌↔◌}
use Rattle.ipnetwork_addr.specs.declared.error.AddrParseError.TheVariants as error
use Rattle.ipnetwork_addr.proofs.Examples.{none_before_the_dot}

abbrev number : Option ℕ → ℕ
number (Some address) = address
number None = 0

-- ---- what a text names is computed

abbrev V4TextIsComputed : Type 0
V4TextIsComputed = (text : List ℕ) (address : ℕ)
    → NamesV4 text address ↔ (v4_of text ≡ Some address)

pub v4_text_names_one : V4TextIsComputed → NamesV4 (codes "192.0.2.1") 0xc0000201
unfolding digits
v4_text_names_one law = (law (codes "192.0.2.1") 0xc0000201).1 refl

pub v4_text_names_no_other : V4TextIsComputed → (address : ℕ) → NamesV4 (codes "192.0.2.1") address
    → address ≡ 0xc0000201
unfolding digits
v4_text_names_no_other law address named = sym (ap number ((law (codes "192.0.2.1") address).0 named))

abbrev V6TextIsComputed : Type 0
V6TextIsComputed = (text : List ℕ) (address : ℕ)
    → NamesV6 text address ↔ (v6_of text ≡ Some address)

pub v6_text_names_one : V6TextIsComputed
    → NamesV6 (codes "2001:DB8::1") 0x20010db8000000000000000000000001
unfolding digits v6_of gap_below
v6_text_names_one law = (law (codes "2001:DB8::1") 0x20010db8000000000000000000000001).1 refl

pub v6_text_names_no_other : V6TextIsComputed → (address : ℕ) → NamesV6 (codes "::") address
    → address ≡ 0
unfolding digits v6_of gap_below
v6_text_names_no_other law address named = sym (ap number ((law (codes "::") address).0 named))

-- ---- what a reader returns is computed

err-ok : {A : Type 0} (cause : AddrParseError) (address : A) → ¬ (Err cause ≡ Ok address)
err-ok cause address is = true≢false (ap is_err is)

abbrev V4ReadingIsComputed : Type 0
V4ReadingIsComputed = (text : List ℕ) (result : Result ℕ AddrParseError)
    → Reads NamesV4 error.Ipv4 text result ↔ (result ≡ answer_from error.Ipv4 (v4_of text))

pub three_octets_are_refused : V4ReadingIsComputed
    → Reads NamesV4 error.Ipv4 (codes "192.0.2") (Err error.Ipv4)
unfolding digits
three_octets_are_refused law = (law (codes "192.0.2") (Err error.Ipv4)).1 refl

pub no_good_text_is_refused : V4ReadingIsComputed → (cause : AddrParseError)
    → ¬ (Reads NamesV4 error.Ipv4 (codes "192.0.2.1") (Err cause))
unfolding digits
no_good_text_is_refused law cause reads = err-ok cause 0xc0000201 ((law (codes "192.0.2.1") (Err cause)).0 reads)

abbrev V6ReadingIsComputed : Type 0
V6ReadingIsComputed = (text : List ℕ) (result : Result ℕ AddrParseError)
    → Reads NamesV6 error.Ipv6 text result ↔ (result ≡ answer_from error.Ipv6 (v6_of text))

pub two_gaps_are_refused : V6ReadingIsComputed
    → Reads NamesV6 error.Ipv6 (codes "1::2::3") (Err error.Ipv6)
unfolding digits v6_of gap_below
two_gaps_are_refused law = (law (codes "1::2::3") (Err error.Ipv6)).1 refl

pub no_gap_is_refused : V6ReadingIsComputed → (cause : AddrParseError)
    → ¬ (Reads NamesV6 error.Ipv6 (codes "::") (Err cause))
unfolding digits v6_of gap_below
no_gap_is_refused law cause reads = err-ok cause 0 ((law (codes "::") (Err cause)).0 reads)

abbrev IpReadingIsComputed : Type 0
IpReadingIsComputed = (text : List ℕ) (result : Result IpAddr AddrParseError)
    → Reads NamesIp error.Ip text result ↔ (result ≡ answer_from error.Ip (ip_of text))

pub each_family_is_read : IpReadingIsComputed
    → Reads NamesIp error.Ip (codes "192.0.2.1") (Ok (V4 0xc0000201))
    × Reads NamesIp error.Ip (codes "::1") (Ok (V6 1))
unfolding digits v6_of gap_below
each_family_is_read law =
    ((law (codes "192.0.2.1") (Ok (V4 0xc0000201))).1 refl, (law (codes "::1") (Ok (V6 1))).1 refl)

-- ---- octets

abbrev OctetTexts : Type 0
OctetTexts = (text : List ℕ) (n : ℕ) → IsOctet text n ↔ IsPlainOctet text n

-- no octet of several digits begins with a zero
pub no_leading_zero : OctetTexts → (digit n : ℕ) → ¬ (IsOctet (48 ∷ digit ∷ []) n)
no_leading_zero law digit n octet =
    let one : 2 ≡ 1 = ((law (48 ∷ digit ∷ []) n).0 octet).no_leading_zero refl in omega (arith, one)

-- no octet has four digits
pub no_four_digits : OctetTexts → (a b c d n : ℕ) → ¬ (IsOctet (a ∷ b ∷ c ∷ d ∷ []) n)
no_four_digits law a b c d n octet =
    let short = ((law (a ∷ b ∷ c ∷ d ∷ []) n).0 octet).short in omega (arith, short)

-- ---- a text names at most one address, in at most one family

abbrev OneIn : (List ℕ → ℕ → Type 0) → Type 0
OneIn Names = (text : List ℕ) (a b : ℕ) → Names text a → Names text b → a ≡ b

-- a text that names 192.0.2.1 does not name 192.0.2.2
pub no_second_v4 : OneIn NamesV4 → (text : List ℕ) → NamesV4 text 0xc0000201 → ¬ (NamesV4 text 0xc0000202)
no_second_v4 law text one two =
    let same = law text 0xc0000201 0xc0000202 one two in omega (arith, same)

pub no_second_v6 : OneIn NamesV6 → (text : List ℕ) → NamesV6 text 0 → ¬ (NamesV6 text (2 ^ 128 - 1))
no_second_v6 law text one two = let same = law text 0 (2 ^ 128 - 1) one two in omega (arith, same)

pub no_text_of_both : ((text : List ℕ) (a b : ℕ) → NamesV4 text a → NamesV6 text b → ⊥)
    → V4TextIsComputed → (address : ℕ) → ¬ (NamesV6 (codes "192.0.2.1") address)
no_text_of_both law computed address =
    law (codes "192.0.2.1") 0xc0000201 address (v4_text_names_one computed)

abbrev width : IpAddr → ℕ
width (V4 address) = 32
width (V6 address) = 128

-- a text that names an IPv4 address does not name the IPv6 address of the same number
pub no_other_family : ((text : List ℕ) (a b : IpAddr) → NamesIp text a → NamesIp text b → a ≡ b)
    → (text : List ℕ) → NamesIp text (V4 1) → ¬ (NamesIp text (V6 1))
no_other_family law text one two =
    let same : 32 ≡ 128 = ap width (law text (V4 1) (V6 1) one two) in omega (arith, same)

-- ---- canonical texts

pub last_v4_is_named : ((address : ℕ) → address < 2 ^ 32 → NamesV4 (canonical_v4 address) address)
    → NamesV4 (codes "255.255.255.255") (2 ^ 32 - 1)
unfolding digits
last_v4_is_named law = law (2 ^ 32 - 1) (lit< tt)

-- only the last IPv4 address is printed as 255.255.255.255
pub last_v4_is_alone
    : ((a b : ℕ) → a < 2 ^ 32 → b < 2 ^ 32 → (a ≡ b) ↔ (canonical_v4 a ≡ canonical_v4 b))
    → (address : ℕ) → address < 2 ^ 32 → canonical_v4 address ≡ codes "255.255.255.255"
    → address ≡ 2 ^ 32 - 1
unfolding digits
last_v4_is_alone law address fits printed = (law address (2 ^ 32 - 1) fits (lit< tt)).1 printed

abbrev CanonicalIsOneText : Type 0
CanonicalIsOneText = (text : List ℕ) (address : ℕ)
    → IsCanonicalV6 text address ↔ (text ≡ canonical_v6 address)

-- the first of two equally long runs of zeros is the gap, not the second
pub first_run_is_the_gap : CanonicalIsOneText
    → IsCanonicalV6 (codes "2001:db8::1:0:0:1") 0x20010db8000000000001000000000001
unfolding digits
first_run_is_the_gap law =
    (law (codes "2001:db8::1:0:0:1") 0x20010db8000000000001000000000001).1 refl

pub canonical_v6_is_named
    : ((text : List ℕ) (address : ℕ) → address < 2 ^ 128 → IsCanonicalV6 text address → NamesV6 text address)
    → CanonicalIsOneText → NamesV6 (codes "::") 0
unfolding digits
canonical_v6_is_named law one = law (codes "::") 0 (lit< tt) ((one (codes "::") 0).1 refl)

pub no_v6_is_alone
    : ((a b : ℕ) → a < 2 ^ 128 → b < 2 ^ 128 → (a ≡ b) ↔ (canonical_v6 a ≡ canonical_v6 b))
    → (address : ℕ) → address < 2 ^ 128 → canonical_v6 address ≡ codes "::" → address ≡ 0
unfolding digits
no_v6_is_alone law address fits printed = (law address 0 fits (lit< tt)).1 printed

pub either_is_named : ((address : IpAddr) → FitsIp address → NamesIp (canonical_ip address) address)
    → NamesIp (codes "0.0.0.1") (V4 1) × NamesIp (codes "::1") (V6 1)
unfolding digits
either_is_named law = (law (V4 1) (lit< tt), law (V6 1) (lit< tt))

-- an IPv6 address is never printed as an IPv4 address is
pub families_are_printed_apart
    : ((a b : IpAddr) → FitsIp a → FitsIp b → (a ≡ b) ↔ (canonical_ip a ≡ canonical_ip b))
    → (four six : ℕ) → four < 2 ^ 32 → six < 2 ^ 128 → ¬ (canonical_v4 four ≡ canonical_v6 six)
families_are_printed_apart law four six fits six_fits printed =
    let same : 32 ≡ 128 = ap width ((law (V4 four) (V6 six) fits six_fits).1 printed) in omega (arith, same)

-- ---- bytes of texts

abbrev BytesOf : (List ℕ → ℕ → Type 0) → Type 0
BytesOf Names = (text : List ℕ) (address : ℕ) → Names text address → AllByRecursion IsAddressByte text

-- no address text begins with a blank
pub no_blank_before_v4 : BytesOf NamesV4 → (text : List ℕ) (address : ℕ) → ¬ (NamesV4 (32 ∷ text) address)
no_blank_before_v4 law text address named =
    none_before_the_dot 32 (lit< tt) (law (32 ∷ text) address named).0

pub no_blank_before_v6 : BytesOf NamesV6 → (text : List ℕ) (address : ℕ) → ¬ (NamesV6 (32 ∷ text) address)
no_blank_before_v6 law text address named =
    none_before_the_dot 32 (lit< tt) (law (32 ∷ text) address named).0

-- no IPv4 text begins with a colon, and no IPv6 text with a dot
pub no_colon_before_v4
    : ((text rest : List ℕ) (address : ℕ) → NamesV4 text address → colon_first (text ++ rest) ≡ false)
    → (text : List ℕ) (address : ℕ) → ¬ (NamesV4 (58 ∷ text) address)
no_colon_before_v4 law text address named = true≢false (law (58 ∷ text) [] address named)

pub no_dot_before_v6
    : ((text rest : List ℕ) (address : ℕ) → NamesV6 text address → colon_first (text ++ rest) ≡ true)
    → (text : List ℕ) (address : ℕ) → ¬ (NamesV6 (46 ∷ text) address)
no_dot_before_v6 law text address named = true≢false (sym (law (46 ∷ text) [] address named))

-- ---- the IPv4 address of an IPv4-mapped address

pub mapped_text : ((mapped address : ℕ) → unmapped (V6 mapped) ≡ V4 address
    → canonical_v6 mapped ≡ codes "::ffff:" ++ canonical_v4 address)
    → canonical_v6 0xffffc0000201 ≡ codes "::ffff:" ++ canonical_v4 0xc0000201
mapped_text law = law 0xffffc0000201 0xc0000201 refl

pub mapped_of_each : ((address : ℕ) → address < 2 ^ 32
    → unmapped (V6 (0xffff * 2 ^ 32 + address)) ≡ V4 address)
    → unmapped (V6 0xffff01020304) ≡ V4 0x01020304
mapped_of_each law = law 0x01020304 (lit< tt)
