use Rattle.lists.proofs.Known.{device_of, has_failed, bytes_read, bytes_stop}
use Rattle.lists.proofs.bytes.read_bytes.Goals as goal

pub returns-clause-ok : goal.returns-clause-ok
returns-clause-ok g c =
    let remaining = g.L.List.Read.remaining in
    bytes_read (g.L.OpenLists.known c.args.lists.now) c.args.name.now (remaining (device_of c.in-Ok.list))
    (remaining (device_of c.read_all-bytes.new.reader))
    c.in-Ok.ensures.bytes
    c.in-Ok.ensures.opened (λ bytes. bytes.items) c.read_all-bytes.result c.read_all-bytes.ensures.ok

pub returns-clause-err : goal.returns-clause-err
returns-clause-err g c =
    let remaining = g.L.List.Read.remaining in
    bytes_stop (g.L.OpenLists.known c.args.lists.now) c.args.name.now (remaining (device_of c.in-Ok.list))
    (remaining (device_of c.read_all-bytes.new.reader))
    c.in-Ok.ensures.bytes
    c.in-Ok.ensures.opened c.args.max (has_failed c.read_all-bytes.new.reader) c.read_all-bytes.result
    c.close.ensures.failed c.read_all-bytes.ensures.err
