use Rattle.lists.proofs.Known.{◌++◌, take, arith, length-append, length-take, Consumes-trans}
use Rattle.lists.proofs.bytes.read_all.Goals as goal

pub returns-then-count-room-clause-err : goal.returns-then-count-room-clause-err
returns-then-count-room-clause-err g c =
    let chunk = take c.in-Ok.count c.read.new.buf in (
      c.reads.bytes.items ++ chunk,
      Consumes-trans _ _ _ c.reads.bytes.items chunk c.reads.invariant.reads c.in-Ok.ensures.bytes.0,
      omega (
        arith,
        length-append c.reads.bytes.items chunk,
        length-take c.in-Ok.count c.read.new.buf,
        c.in-Ok.ensures.bound,
        c.reads.invariant.counted,
        c.if-count-room.true,
      ),
    )

pub returns-then-is_err-clause-err : goal.returns-then-is_err-clause-err
returns-then-is_err-clause-err g c =
    let chunk = take c.in-Ok.count c.read.new.buf in (
      c.reads.bytes.items ++ chunk,
      Consumes-trans _ _ _ c.reads.bytes.items chunk c.reads.invariant.reads c.in-Ok.ensures.bytes.0,
      omega (
        arith,
        length-append c.reads.bytes.items chunk,
        length-take c.in-Ok.count c.read.new.buf,
        c.in-Ok.ensures.bound,
        c.if-count-eq0.false,
      ),
    )
