use Rattle.ipnetwork_witness.proofs.ipv6.read_v6.Goals as goal

pub returns-clause-agree : goal.returns-clause-agree
returns-clause-agree c = c.v6_readers_agree.ensures _ _ _ c.read_bytes.ensures c.parse_ascii.ensures
