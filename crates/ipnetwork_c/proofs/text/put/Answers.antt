use Rattle.ipnetwork_c.proofs.Known.{◌<◌, length, arith, zero_behind}
use Rattle.ipnetwork_c.proofs.text.put.Goals as goal

pub returns : goal.returns
returns c =
    let room : length c.args.text.now < length c.args.buffer.now = omega (arith, c.if-end-buffer.false) in
    (room, rw c.copy_from_slice.ensures.after (zero_behind c.args.text.now c.args.buffer.now room))
