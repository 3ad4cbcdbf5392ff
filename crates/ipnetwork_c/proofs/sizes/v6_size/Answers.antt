use Rattle.ipnetwork_c.proofs.Known.{◌∙◌, next_in_octets}
use Rattle.ipnetwork_c.proofs.sizes.v6_size.Goals as goal

pub returns : goal.returns
returns c = next_in_octets _ _ _ _ c.last_index-last.ensures.width c.from-front.ensures c.octets.ensures
    c.followed_by.ensures ∙ c.last_index-last.ensures.count
