use Rattle.cidr.proofs.commands.reading.network_of.Goals as goal

pub returns : goal.returns
returns c = (c.ip_network_reading_is_computed.ensures c.args.text.now c.read_bytes.result).0 c.read_bytes.ensures
