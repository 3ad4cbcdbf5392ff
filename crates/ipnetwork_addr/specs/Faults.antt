-- The messages of the errors of reading an address.
use Rattle.std.specs.Prelude.{ℕ, List, codes}
use Rattle.ipnetwork_addr.specs.declared.error.AddrParseError.{AddrParseError}
use Rattle.ipnetwork_addr.specs.declared.error.AddrParseError.TheVariants.{Ipv4, Ipv6, Ip}

-- the message of each error
abbrev pub addr_fault_text : AddrParseError → List ℕ
addr_fault_text Ipv4 = codes "invalid IPv4 address syntax"
addr_fault_text Ipv6 = codes "invalid IPv6 address syntax"
addr_fault_text Ip = codes "invalid IP address syntax"
