use Rattle.ipnetwork.proofs.Known.{v4_reads, v6_reads, parses_as_it_reads}
use Rattle.ipnetwork.proofs.laws.families.each_is_read_in_its_family.Goals as goal

pub returns : goal.returns
returns c = record { v4 = v4_reads; v6 = v6_reads; parsed = parses_as_it_reads }
