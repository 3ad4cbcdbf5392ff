use Rattle.ipnetwork_family.proofs.Known.{take_rest, Suffixed, cut_at}
use Rattle.ipnetwork_family.proofs.network.read_suffixed.Goals as goal

pub returns : goal.returns
returns g c = Suffixed _ _ (rw take_rest (cut_at c.args.text.now _ c.in_ok-at.ensures.0 c.in_ok-at.ensures.1))
    c.in-Ok.ensures c.in_ok-prefix.ensures.1
