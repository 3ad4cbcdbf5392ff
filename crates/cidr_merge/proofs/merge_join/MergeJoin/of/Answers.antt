use Rattle.cidr_merge.proofs.Known.{headed}
use Rattle.cidr_merge.proofs.merge_join.MergeJoin.of.Goals as goal

pub returns-clause-first : goal.returns-clause-first
returns-clause-first g c =
    headed g.P.Parts.seen c.next_part-first.result (g.P.Parts.left c.args.firsts)
    (g.P.Parts.left c.next_part-first.new.self) c.next_part-first.ensures
