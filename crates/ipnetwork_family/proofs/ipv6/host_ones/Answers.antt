use Rattle.ipnetwork_family.proofs.Known.{◌∙◌, host_ones_are}
use Rattle.ipnetwork_family.proofs.ipv6.host_ones.Goals as goal

pub returns : goal.returns
returns c = c.unwrap_or.ensures ∙ host_ones_are 128 c.args.prefix c.checked_shr.result c.requires
    (rw c.from.ensures at c.checked_shr.ensures)
