-- The network that a struct of either family represents.
use Rattle.std.specs.Prelude.{ℕ, Result, Ok, Err}
use Rattle.ipnetwork.specs.declared.ip_network.IpNetwork.{IpNetwork}
use Rattle.ipnetwork_c.specs.declared.structs.IpInC.{IpInC}
use Rattle.ipnetwork_c.specs.Either.{NoIpNetwork, StandsForIp}

-- the network, or the fault why there is none
abbrev pub HeldNetwork : IpInC → Result IpNetwork ℕ → Type 0
HeldNetwork held (Ok n) = StandsForIp held n
HeldNetwork held (Err code) = NoIpNetwork held code
