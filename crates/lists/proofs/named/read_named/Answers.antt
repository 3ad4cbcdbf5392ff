use Rattle.lists.proofs.Known.{◌∙◌, Bool, ap, fails_reading, device_of, read_stopped, read_whole}
use Rattle.std.specs.Prelude.{◌||◌}
use Rattle.lists.proofs.named.read_named.Goals as goal

pub returns-clause-stopped : goal.returns-clause-stopped
returns-clause-stopped g c =
    let remaining = g.L.List.Read.remaining in
    let read = c.read_list-read.result in
    read_stopped (g.L.OpenLists.known c.args.lists.now) c.args.place c.args.name.now c.args.reader.now
    c.read_list-read.new.lists (remaining (device_of c.in-Ok.list)) _ c.in-Ok.ensures.opened c.in-Ok.ensures.bytes
    read c.is_out_of_memory.result c.end_of.result c.end_of.ensures
    (λ ended. c.close.ensures.failed (c.read_list-read.ensures.failed
    ∙ ap (λ (b : Bool). b || fails_reading read) c.in-Ok.ensures.failed ∙ ended))
    c.read_list-read.ensures.taken c.read_list-read.ensures.stopped c.is_out_of_memory.ensures

pub returns-clause-read : goal.returns-clause-read
returns-clause-read g c =
    let remaining = g.L.List.Read.remaining in
    let read = c.read_list-read.result in
    read_whole (g.L.OpenLists.known c.args.lists.now) c.args.place c.args.name.now c.args.reader.now
    c.read_list-read.new.lists (remaining (device_of c.in-Ok.list)) (remaining (device_of c.in-Ok.list))
    c.in-Ok.ensures.opened c.in-Ok.ensures.bytes
    read c.is_out_of_memory.result c.end_of.result c.end_of.ensures
    c.read_list-read.ensures.taken c.read_list-read.ensures.whole c.is_out_of_memory.ensures
