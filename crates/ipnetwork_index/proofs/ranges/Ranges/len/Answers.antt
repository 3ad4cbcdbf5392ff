use Rattle.ipnetwork_index.proofs.ranges.Ranges.len.Goals as goal

pub len-requires : goal.len-requires
len-requires g c = record { lasts = c.requires.1.lasts; of = c.requires.1.placed }

pub returns : goal.returns
returns g c = λ t i. rw (c.len.ensures i.lasts i.placed) i.answered.cut
