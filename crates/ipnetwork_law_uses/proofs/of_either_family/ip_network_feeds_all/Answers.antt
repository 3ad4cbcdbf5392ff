use Rattle.std.proofs.Common.{refl}
use Rattle.ipnetwork_law_uses.proofs.of_either_family.ip_network_feeds_all.Goals as goal

pub returns-clause-alike : goal.returns-clause-alike
returns-clause-alike g c = λ e. c.ip_network_hash.ensures.alike refl e
