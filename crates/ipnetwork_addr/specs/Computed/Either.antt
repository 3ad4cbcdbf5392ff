-- The address of either family that a text names, computed.
use Rattle.std.specs.Prelude.{ℕ, List, Option, None, Some}
use Rattle.ipnetwork_addr.specs.declared.ip.IpAddr.{IpAddr}
use Rattle.ipnetwork_addr.specs.declared.ip.IpAddr.TheVariants.{V4, V6}
use Rattle.ipnetwork_addr.specs.Computed.Ipv4Text.{v4_of}
use Rattle.ipnetwork_addr.specs.Computed.Ipv6Text.{v6_of}

-- the first address if there is one, as an IPv4 address, else the other one, as an IPv6 address
abbrev pub either_of : Option ℕ → Option ℕ → Option IpAddr
either_of (Some address) other = Some (V4 address)
either_of None (Some address) = Some (V6 address)
either_of None None = None

-- the address that a text names, if it names one
abbrev pub ip_of : List ℕ → Option IpAddr
ip_of text = either_of (v4_of text) (v6_of text)
