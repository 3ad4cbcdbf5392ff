use Rattle.ipnetwork_family.proofs.Known.{NamesV4, NamesV6, IsV4Suffix, IsV6Suffix, no_suffix}
use Rattle.ipnetwork_family.proofs.laws.texts.suffix_is_refused.Goals as goal

pub returns-clause-v4 : goal.returns-clause-v4
returns-clause-v4 c = no_suffix 32 NamesV4 IsV4Suffix

pub returns-clause-v6 : goal.returns-clause-v6
returns-clause-v6 c = no_suffix 128 NamesV6 IsV6Suffix
