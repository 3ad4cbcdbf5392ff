use Rattle.ipnetwork_sets.proofs.Known.{ap, ◌∙◌, count_number, total, capped, has_count}
use Rattle.ipnetwork_sets.proofs.address_slice.AddressSlice.address_count.Goals as goal

pub returns : goal.returns
returns g c =
    has_count g.N.CidrNetwork.WIDTH c.args.self.now (count_number c.count_blocks.result) c.one_block.ensures.apart
    c.blocks-2.ensures.set
    (c.count_blocks.ensures ∙ ap (λ l. capped (total g.N.CidrNetwork.WIDTH l)) c.blocks-2.ensures.blocks)
