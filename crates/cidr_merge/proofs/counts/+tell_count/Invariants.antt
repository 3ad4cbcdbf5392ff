use Rattle.cidr_merge.proofs.counts.+tell_count.Given as goal

abbrev pub decreases-tell_count : goal.decreases-tell_count
decreases-tell_count g l = l.count
