-- What follows from the laws, and would not follow from narrower ones. The IPv4 address is from RFC 5737, section 3.
use Rattle.line_addresses.proofs.Words.{◌≡◌, ℕ, List, ◌∷◌, Option, None, Some, refl, ap, sym, codes, lit<, digits, v6_of, gap_below, IpAddr, V4, V6, NamesIp, none_before_the_dot, none_before_the_capitals, none_from_capital_g, none_from_letter_g, address_of, begun_by, address_in, NamedAddress, BeginsNoAddress, EndsNoAddress}

-- ---- the address of a text is the one that it names

pub each_family_is_named : NamedAddress → NamesIp (codes "192.0.2.1") (V4 0xc0000201)
    × NamesIp (codes "::ffff:192.0.2.1") (V6 0xffffc0000201)
unfolding address_of digits v6_of gap_below
each_family_is_named law =
    ((law (codes "192.0.2.1") (V4 0xc0000201)).1 refl, (law (codes "::ffff:192.0.2.1") (V6 0xffffc0000201)).1 refl)

abbrev the_address : Option IpAddr → IpAddr
the_address (Some address) = address
the_address None = V4 0

pub no_other_is_named : NamedAddress → (address : IpAddr) → NamesIp (codes "::") address → address ≡ V6 0
unfolding address_of digits v6_of gap_below
no_other_is_named law address named = sym (ap the_address ((law (codes "::") address).0 named))

-- ---- runs that begin or end with a byte of no address: those before and after the letters of hex digits

pub no_address_first : BeginsNoAddress → (run : List ℕ) → (begun_by (45 ∷ run) ≡ None) × (begun_by (64 ∷ run) ≡ None)
    × (begun_by (71 ∷ run) ≡ None) × (begun_by (95 ∷ run) ≡ None) × (begun_by (103 ∷ run) ≡ None)
no_address_first law run = (
  law 45 run (none_before_the_dot 45 (lit< tt)),
  law 64 run (none_before_the_capitals 64 (lit< tt) (lit< tt)),
  law 71 run (none_from_capital_g 71 (lit< tt) (lit< tt)),
  law 95 run (none_from_capital_g 95 (lit< tt) (lit< tt)),
  law 103 run (none_from_letter_g 103 (lit< tt)),
)

pub no_address_last : EndsNoAddress → (first second : ℕ) → (address_in (codes "g") ≡ None)
    × (address_in (first ∷ codes "_") ≡ None) × (address_in (first ∷ second ∷ codes "G") ≡ None)
no_address_last law first second = (
  law (codes "g") (lit< tt) refl,
  law (first ∷ codes "_") (lit< tt) refl,
  law (first ∷ second ∷ codes "G") (lit< tt) refl,
)
