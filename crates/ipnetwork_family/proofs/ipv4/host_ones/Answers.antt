use Rattle.ipnetwork_family.proofs.Known.{◌/◌, ◌^◌, ap, ◌∙◌, ones_shr}
use Rattle.ipnetwork_family.proofs.ipv4.host_ones.Goals as goal

pub returns : goal.returns
returns c = ap (λ n. n / 2 ^ c.args.prefix) c.from.ensures ∙ ones_shr 32 c.args.prefix c.requires
