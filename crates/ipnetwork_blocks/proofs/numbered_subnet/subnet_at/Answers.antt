use Rattle.ipnetwork_blocks.proofs.Known.{◌≡◌, ℕ, ◌+◌, ◌-◌, ◌*◌, ◌^◌, ◌<◌, subst, ◌∙◌, arith, Network, low, block_size, IsNumber, begins_within, offset_fits, numbered}
use Rattle.ipnetwork_blocks.proofs.numbered_subnet.subnet_at.Given.{Over}
use Rattle.ipnetwork_blocks.proofs.numbered_subnet.subnet_at.Goals as goal
use Rattle.ipnetwork_blocks.proofs.numbered_subnet.subnet_at.Goals.{After-WIDTH-2}

is_number : (g : Over) (c : After-WIDTH-2 g)
    → IsNumber g.N.CidrNetwork.WIDTH (g.N.CidrNetwork.pair c.args.network) c.args.prefix c.args.number
is_number g c = record {
  network = c.prefix.ensures.network;
  longer = omega (arith, c.if-prefix.false, c.prefix.ensures.made);
  within = omega (arith, c.if-WIDTH-prefix.false, c.WIDTH.ensures);
  below = subst (λ (k : ℕ). c.args.number < 2 ^ (c.args.prefix - k)) c.prefix-2.ensures.made
      (c.is_below_power.ensures.0 c.if-not-is_below_power.false);
}

pub times_power-offset-requires : goal.times_power-offset-requires
times_power-offset-requires g c =
    rw c.WIDTH-2.ensures (offset_fits _ _ _ _ (is_number g c) g.met.N.AddressSpace.few_bits)

pub plus-requires : goal.plus-requires
plus-requires g c =
    let number = is_number g (goal.at.plus-requires g c).After-WIDTH-2 in
    omega (
      arith,
      begins_within g.N.CidrNetwork.WIDTH (g.N.CidrNetwork.pair c.args.network) c.args.prefix c.args.number
          number,
      rw c.WIDTH-2.ensures at c.times_power-offset.ensures,
      c.network.ensures,
    )

pub returns : goal.returns
returns g c =
    let w : ℕ = g.N.CidrNetwork.WIDTH in
    let n : Network = g.N.CidrNetwork.pair c.args.network in
    let number = is_number g (goal.at.returns g c).After-WIDTH-2 in
    let offset = rw c.WIDTH-2.ensures at c.times_power-offset.ensures in
    let at : g.N.CidrNetwork.number c.plus.result ≡ low w n + c.args.number * block_size w c.args.prefix =
    c.plus.ensures ∙ (omega (arith, offset, c.network.ensures)) in (
      number.longer,
      number.within,
      number.below,
      c.block_at.ensures.made
          ∙ numbered w n c.args.prefix c.args.number (g.N.CidrNetwork.number c.plus.result) at,
    )
