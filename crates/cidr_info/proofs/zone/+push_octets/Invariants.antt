use Rattle.cidr_info.proofs.zone.+push_octets.Given as goal

abbrev pub decreases-push_octets : goal.decreases-push_octets
decreases-push_octets l = l.count
