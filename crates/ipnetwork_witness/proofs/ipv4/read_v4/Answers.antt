use Rattle.ipnetwork_witness.proofs.ipv4.read_v4.Goals as goal

pub returns-clause-agree : goal.returns-clause-agree
returns-clause-agree c = c.v4_readers_agree.ensures _ _ _ c.read_bytes.ensures c.parse_ascii.ensures
