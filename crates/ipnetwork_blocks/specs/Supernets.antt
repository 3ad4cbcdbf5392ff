-- The blocks that contain a network, and the other half of the block that is one bit shorter.
use Rattle.std.specs.Prelude.{◌≡◌, ℕ, ◌-◌, ◌⊎◌, ◌↔◌}
use Rattle.ipnetwork_family.specs.Network.{Network, IsCidrBlock, Member, Subnet, Overlap, block_of}

-- b is the block of prefix length p that contains the network
pub record IsAround (w : ℕ) (n : Network) (p : ℕ) (b : Network) : Type 0 where
  pub block : IsCidrBlock w b
  pub as_long : b.prefix ≡ p
  pub around : Subnet w n b

-- the block that contains the network and whose prefix length is one bit shorter
abbrev pub parent : ℕ → Network → Network
parent w n = block_of w (record { address = n.address; prefix = n.prefix - 1 })

-- b is the other half of the network's parent: a block of the same prefix length that shares no address with the
-- network and, together with the network, makes up the parent
pub record IsSibling (w : ℕ) (n b : Network) : Type 0 where
  pub block : IsCidrBlock w b
  pub as_long : b.prefix ≡ n.prefix
  pub apart : ¬ (Overlap w n b)
  pub whole : (x : ℕ) → Member w (parent w n) x ↔ (Member w n x ⊎ Member w b x)
