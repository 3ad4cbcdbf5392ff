-- The meaning of the iterator's private fields.
use Rattle.std.specs.Prelude.{List, map}
use Rattle.ipnetwork_addr.specs.declared.ip.IpAddr.{IpAddr}
use Rattle.ipnetwork_addr.specs.declared.ip.IpAddr.TheVariants as addresses
use Rattle.ipnetwork.specs.declared.ip_iter.Members.{Members}
use Rattle.ipnetwork.specs.declared.ip_iter.Members.TheVariants.{V4, V6}

-- the remaining addresses
abbrev pub listed : Members → List IpAddr
listed (V4 left) = map addresses.V4 left
listed (V6 left) = map addresses.V6 left
