-- The smallest block that contains a list of networks.
use Rattle.std.specs.Prelude.{ℕ, List}
use Rattle.std.specs.List.{Contains}
use Rattle.ipnetwork_family.specs.Network.{Network, IsNetwork, IsCidrBlock, Subnet}

-- every network of the list lies in b
abbrev pub AllLieIn : ℕ → List Network → Network → Type 0
AllLieIn w networks b = (n : Network) → Contains networks n → Subnet w n b

-- b is the smallest block that contains the networks: they all lie in b, and b lies in every network in which they all
-- lie
pub record IsSpanning (w : ℕ) (networks : List Network) (b : Network) : Type 0 where
  pub block : IsCidrBlock w b
  pub around : AllLieIn w networks b
  pub smallest : (c : Network) → IsNetwork w c → AllLieIn w networks c → Subnet w b c
