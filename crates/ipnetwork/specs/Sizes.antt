-- The number of addresses of a network of either family.
use Rattle.std.specs.Prelude.{◌≡◌, ℕ, Result, Ok, Err}
use Rattle.ipnetwork_family.specs.declared.error.NetworkSizeError.{NetworkSizeError}
use Rattle.ipnetwork_family.specs.declared.error.NetworkSizeError.TheVariants.{NetworkIsTooLarge}
use Rattle.ipnetwork.specs.declared.size.NetworkSize.{NetworkSize}
use Rattle.ipnetwork.specs.declared.size.NetworkSize.TheVariants.{V4, V6}

-- the number of a size, whatever its family
abbrev pub size_number : NetworkSize → ℕ
size_number (V4 number) = number
size_number (V6 number) = number

-- what converting a size to a 32-bit number returns: the number of an IPv4 size, or an error for an IPv6 size
abbrev pub FitsV4 : NetworkSize → Result ℕ NetworkSizeError → Type 0
FitsV4 (V4 number) result = result ≡ Ok number
FitsV4 (V6 number) result = result ≡ Err NetworkIsTooLarge
