-- The result of reading a network of either family, computed.
use Rattle.std.specs.Prelude.{ℕ, ◌==◌, nat_le, if◌then◌else◌, List, Option, None, Some, Result, Ok, Err}
use Rattle.std.specs.List.{after_first}
use Rattle.ipnetwork_family.specs.Network.{Network}
use Rattle.ipnetwork_family.specs.NetworkText.{slash, slashes, before_slash}
use Rattle.ipnetwork_family.specs.declared.error.CidrFault.{CidrFault}
use Rattle.ipnetwork_family.specs.declared.error.CidrFault.TheVariants.{Format, Addr, Prefix}

-- the part after the first `/`, if any
abbrev pub suffix_of : List ℕ → Option (List ℕ)
suffix_of text = if slashes text == 0 then None else Some (after_first (λ byte. byte == slash) text)

-- the prefix length that a suffix gives, or w if there is no suffix
abbrev pub prefix_given : ℕ → (List ℕ → Option ℕ) → Option (List ℕ) → Option ℕ
prefix_given w length_of None = Some w
prefix_given w length_of (Some suffix) = length_of suffix

-- the network with this address and prefix length, or the fault of the first that is missing
abbrev pub network_from : Option ℕ → Option ℕ → Result Network CidrFault
network_from None prefix = Err Addr
network_from (Some a) None = Err Prefix
network_from (Some a) (Some p) = Ok (record { address = a; prefix = p })

-- the network that a text names, or the cause if it names none
abbrev pub network_of : ℕ → (List ℕ → Option ℕ) → (List ℕ → Option ℕ) → List ℕ → Result Network CidrFault
network_of w address_of length_of text =
    if nat_le 2 (slashes text) then Err Format
    else network_from (address_of (before_slash text)) (prefix_given w length_of (suffix_of text))
