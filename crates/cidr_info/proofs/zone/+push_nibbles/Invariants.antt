use Rattle.cidr_info.proofs.zone.+push_nibbles.Given as goal

abbrev pub decreases-push_nibbles : goal.decreases-push_nibbles
decreases-push_nibbles l = l.count
