use Rattle.ipnetwork_addr.proofs.Known.{arith, shows_more}
use Rattle.ipnetwork_addr.proofs.digit_lanes.put_lanes.Goals as goal

pub returns : goal.returns
returns c =
    rw c.store.ensures (shows_more c.args.text.now c.args.values.now c.values_of.result c.args.at (omega arith)
    (omega arith) c.requires.so_far c.values_of.ensures)
