use Rattle.std.proofs.Common.{refl}
use Rattle.ipnetwork_law_uses.proofs.networks.v4_network_feeds_all.Goals as goal

pub returns-clause-alike : goal.returns-clause-alike
returns-clause-alike g c = λ e. c.network_hash.ensures.alike refl e
