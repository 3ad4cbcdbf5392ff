-- The texts of this crate's errors, as bytes.
use Rattle.std.specs.Prelude.{◌≡◌, ◌⊎◌, ℕ, List, ◌++◌, codes, string_bytes}
use Rattle.ipnetwork_addr.specs.declared.error.AddrParseError.{AddrParseError}
use Rattle.ipnetwork_addr.specs.declared.error.AddrParseError.TheVariants.{Ipv4, Ipv6, Ip}
use Rattle.ipnetwork_addr.specs.Faults.{addr_fault_text}
use Rattle.ipnetwork_family.specs.declared.error.CidrFault.{CidrFault}
use Rattle.ipnetwork_family.specs.declared.error.CidrFault.TheVariants.{Format, Addr, Prefix}
use Rattle.ipnetwork_family.specs.declared.error.NetworkSizeError.{NetworkSizeError}
use Rattle.ipnetwork_family.specs.declared.error.NetworkSizeError.TheVariants.{NetworkIsTooLarge}
use Rattle.ipnetwork_family.specs.declared.error.IpNetworkError.{IpNetworkError}
use Rattle.ipnetwork_family.specs.declared.error.IpNetworkError.TheVariants as errors

-- a refusal: the variant of an error, with the text that it carries, if any, as bytes
pub data Refusal : Type 0 where
  BadAddress : List ℕ → Refusal
  BadPrefix : Refusal
  BadFormat : List ℕ → Refusal
  BadSize : NetworkSizeError → Refusal
  RanOutOfMemory : Refusal

-- the variant of an error, with the text that it carries, if any, as bytes
abbrev pub refusal_of : IpNetworkError → Refusal
refusal_of (errors.InvalidAddr text) = BadAddress (string_bytes text)
refusal_of errors.InvalidPrefix = BadPrefix
refusal_of (errors.InvalidCidrFormat text) = BadFormat (string_bytes text)
refusal_of (errors.NetworkSizeError error) = BadSize error
refusal_of errors.OutOfMemory = RanOutOfMemory

-- the text that a size error prints
abbrev pub size_error_text : NetworkSizeError → List ℕ
size_error_text NetworkIsTooLarge = codes "Network is too large to fit into an unsigned 32-bit integer!"

-- the text that a refusal prints
abbrev pub refusal_text : Refusal → List ℕ
refusal_text (BadAddress text) = codes "invalid address: " ++ text
refusal_text BadPrefix = codes "invalid prefix"
refusal_text (BadFormat text) = codes "invalid cidr format: " ++ text
refusal_text (BadSize error) = codes "network size error: " ++ size_error_text error
refusal_text RanOutOfMemory = codes "out of memory"

-- a short description of the kind of refusal
abbrev pub description_of : Refusal → List ℕ
description_of (BadAddress text) = codes "address is invalid"
description_of BadPrefix = codes "prefix is invalid"
description_of (BadFormat text) = codes "cidr is invalid"
description_of (BadSize error) = codes "network size error"
description_of RanOutOfMemory = codes "out of memory"

-- the refusal of an input for this cause, when an address of this kind was expected
abbrev pub fault_of : CidrFault → AddrParseError → List ℕ → Refusal
fault_of Format kind input = BadFormat (codes "CIDR must contain a single '/': " ++ input)
fault_of Addr Ipv4 input = BadAddress (addr_fault_text Ipv4)
fault_of Addr Ipv6 input = BadAddress (addr_fault_text Ipv6)
fault_of Addr Ip input = BadAddress input
fault_of Prefix kind input = BadPrefix

-- the error is this refusal; if the refusal carries a text, the error may be `OutOfMemory` instead
abbrev pub IsRefusal : Refusal → IpNetworkError → Type 0
IsRefusal (BadAddress text) error = (refusal_of error ≡ BadAddress text) ⊎ (refusal_of error ≡ RanOutOfMemory)
IsRefusal BadPrefix error = refusal_of error ≡ BadPrefix
IsRefusal (BadFormat text) error = (refusal_of error ≡ BadFormat text) ⊎ (refusal_of error ≡ RanOutOfMemory)
IsRefusal (BadSize size) error = refusal_of error ≡ BadSize size
IsRefusal RanOutOfMemory error = refusal_of error ≡ RanOutOfMemory

-- the refusal carries a text
abbrev pub HasText : Refusal → Type 0
HasText (BadAddress text) = Unit {0}
HasText BadPrefix = ⊥
HasText (BadFormat text) = Unit {0}
HasText (BadSize error) = ⊥
HasText RanOutOfMemory = ⊥
