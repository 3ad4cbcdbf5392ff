use Rattle.ipnetwork_blocks.proofs.Known.{◌≡◌, ℕ, ◌-◌, max, sym, ap, subst, ◌∙◌, arith, iff_false, Network, IsMaximalIn, FromTo, not_before, at_first, ends_within, widest_fits, widest_half}
use Rattle.ipnetwork_blocks.proofs.WidestBlock.{AreEnds}
use Rattle.ipnetwork_blocks.proofs.range_blocks.widest_block.Given.{Over}
use Rattle.ipnetwork_blocks.proofs.range_blocks.widest_block.Goals as goal
use Rattle.ipnetwork_blocks.proofs.range_blocks.widest_block.Goals.{After-block_at-block}

pub returns-then-shared-aligned : goal.returns-then-shared-aligned
returns-then-shared-aligned g c =
    let w : ℕ = g.N.CidrNetwork.WIDTH in
    let first : ℕ = g.N.CidrNetwork.number c.args.first in
    let last : ℕ = g.N.CidrNetwork.number c.args.last in
    let e : AreEnds w first last c.trailing_zeros.result c.shared_bits-shared.result =
    record {
      order = c.requires;
      first_fits = c.block_at.ensures.address;
      zeros_end = c.trailing_zeros.ensures;
      bits_shared = c.shared_bits-shared.ensures;
    } in
    let is : c.WIDTH.result - c.trailing_zeros.result ≡ max (w - c.trailing_zeros.result) c.shared_bits-shared.result =
    omega (arith, c.WIDTH.ensures) in
    let early = ends_within w first last _ _ _ e is c.if-shared-aligned.true in
    record {
      begins = ap (λ n. n.address) c.block_at.ensures.made ∙ at_first w first last _ _ _ e is;
      maximal = subst (λ (b : Network). IsMaximalIn w (FromTo first last) b) (sym c.block_at.ensures.made)
          (widest_fits w first last _ _ _ e is early);
    }

-- both ends share at least as many bits as there are before the trailing zeros of the first
ends : (g : Over) (c : After-block_at-block g)
    → AreEnds g.N.CidrNetwork.WIDTH (g.N.CidrNetwork.number c.args.first) (g.N.CidrNetwork.number c.args.last)
    c.trailing_zeros.result c.shared_bits-shared.result
    × (c.shared_bits-shared.result ≡ max (g.N.CidrNetwork.WIDTH - c.trailing_zeros.result) c.shared_bits-shared.result)
ends g c = (
  record {
    order = c.requires;
    first_fits = c.block_at-block.ensures.address;
    zeros_end = c.trailing_zeros.ensures;
    bits_shared = c.shared_bits-shared.ensures;
  },
  omega (arith, c.WIDTH.ensures, c.if-shared-aligned.false),
)

pub block_at-requires-then-ends_behind : goal.block_at-requires-then-ends_behind
block_at-requires-then-ends_behind g c =
    let both = ends g (goal.at.block_at-requires-then-ends_behind g c).After-block_at-block in
    let late = rw c.block_at-block.ensures.made at (c.ends_behind.ensures.0 c.if-ends_behind.true) in
    (widest_half _ _ _ _ _ _ both.0 both.1 late).0

pub returns-then-ends_behind : goal.returns-then-ends_behind
returns-then-ends_behind g c =
    let both = ends g (goal.at.returns-then-ends_behind g c).After-block_at-block in
    let late = rw c.block_at-block.ensures.made at (c.ends_behind.ensures.0 c.if-ends_behind.true) in
    let half = widest_half _ _ _ _ _ _ both.0 both.1 late in
    record {
      begins = ap (λ n. n.address) c.block_at-then-ends_behind.ensures.made ∙ half.1;
      maximal =
          rw c.block_at-then-ends_behind.ensures.made half.2;
    }

pub returns : goal.returns
returns g c =
    let both = ends g (goal.at.returns g c).After-block_at-block in
    let early = rw c.block_at-block.ensures.made at
    (not_before _ _ (iff_false c.ends_behind.ensures c.if-ends_behind.false)) in
    record {
      begins = ap (λ n. n.address) c.block_at-block.ensures.made ∙ at_first _ _ _ _ _ _ both.0 both.1;
      maximal = rw c.block_at-block.ensures.made (widest_fits _ _ _ _ _ _ both.0 both.1 early);
    }
