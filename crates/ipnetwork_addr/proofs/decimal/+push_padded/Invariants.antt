use Rattle.ipnetwork_addr.proofs.decimal.+push_padded.Given as goal

-- each call has fewer digits left to write
abbrev pub decreases-push_padded : goal.decreases-push_padded
decreases-push_padded g l = l.count
