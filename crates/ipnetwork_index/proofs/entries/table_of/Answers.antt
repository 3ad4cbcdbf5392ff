use Rattle.ipnetwork_index.proofs.Known.{arith, next_taken, no_entries, one_entry_more, all_entries}
use Rattle.ipnetwork_index.proofs.entries.table_of.Goals as goal

pub loop-entry-init : goal.loop-entry-init
loop-entry-init g c = no_entries g.N.CidrNetwork.WIDTH _ c.new-table.ensures

pub loop-entry-preserved : goal.loop-entry-preserved
loop-entry-preserved g c =
    let i = c.loop-entry.entry-index in
    one_entry_more g.N.CidrNetwork.pair g.N.CidrNetwork.WIDTH c.args.entries.now c.loop-entry.table c.insert.new.self i
    c.entry-item.result
    (next_taken c.args.entries.now i c.entry-item.result (omega arith) c.entry-item.is) c.in_ok-insert.ensures.set
    c.loop-entry.invariant

pub returns : goal.returns
returns g c = all_entries g.N.CidrNetwork.pair g.N.CidrNetwork.WIDTH c.args.entries.now c.loop-entry.table
    c.loop-entry.entry-index (omega arith) c.loop-entry.invariant
