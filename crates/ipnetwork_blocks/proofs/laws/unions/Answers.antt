use Rattle.ipnetwork_blocks.proofs.Known.{union_of_none, union_of_list}
use Rattle.ipnetwork_blocks.proofs.laws.unions.Goals as goal

pub returns : goal.returns
returns c = record { none = union_of_none; list = union_of_list }
