use Rattle.ipnetwork.proofs.ip_network.IpNetwork.parse.Goals as goal

pub returns-in-Err : goal.returns-in-Err
returns-in-Err c = let read = rw c.as_bytes.ensures.value at c.in-Err.ensures in
    (read.1, (c.in-Err.fault, read.0, c.from_fault.ensures))
