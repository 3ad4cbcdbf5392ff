-- The laws, each a statement of its own.
use Rattle.std.specs.Prelude.{◌≡◌, ◌↔◌, ◌<◌, ◌-◌, ◌∷◌, ℕ, List, None, Some, false, length, slice_index}
use Rattle.ipnetwork_addr.specs.Either.{NamesIp}
use Rattle.ipnetwork_addr.specs.Texts.{IsAddressByte}
use Rattle.ipnetwork_addr.specs.declared.ip.IpAddr.{IpAddr}
use Rattle.line_addresses.specs.Addresses.{address_in, address_of, begun_by, is_address_byte}

-- the address of a text is the one that it names
abbrev pub NamedAddress : Type 0
NamedAddress = (text : List ℕ) (address : IpAddr) → NamesIp text address ↔ (address_of text ≡ Some address)

-- no address begins a run whose first byte occurs in no address text
abbrev pub BeginsNoAddress : Type 0
BeginsNoAddress = (byte : ℕ) (run : List ℕ) → ¬ (IsAddressByte byte) → begun_by (byte ∷ run) ≡ None

-- no run whose last byte occurs in no address text has an address
abbrev pub EndsNoAddress : Type 0
EndsNoAddress = (run : List ℕ) → 0 < length run → is_address_byte (slice_index run (length run - 1)) ≡ false
    → address_in run ≡ None
