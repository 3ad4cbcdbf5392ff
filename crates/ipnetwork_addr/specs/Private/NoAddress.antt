-- The texts that a reader refuses.
use Rattle.std.specs.Prelude.{ℕ, List}
use Rattle.ipnetwork_addr.specs.Ipv4Text.{NamesV4}
use Rattle.ipnetwork_addr.specs.Ipv6Text.{NamesV6}

-- the text names no IPv4 address
abbrev pub NamesNoV4 : List ℕ → Type 0
NamesNoV4 text = (address : ℕ) → ¬ (NamesV4 text address)

-- the text names no IPv6 address
abbrev pub NamesNoV6 : List ℕ → Type 0
NamesNoV6 text = (address : ℕ) → ¬ (NamesV6 text address)
