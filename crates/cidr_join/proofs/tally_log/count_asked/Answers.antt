use Rattle.cidr_join.proofs.Known.{◌∙◌, true, false, ap, sym, mark_of, line_found, left_by, address_counted, address_counted_if}
use Rattle.cidr_join.proofs.TallyLines.{left_out}
use Rattle.cidr_join.proofs.tally_log.count_asked.Goals as goal

pub returns-then-is_left_out : goal.returns-then-is_left_out
returns-then-is_left_out c = left_out c.args.numbered.now.founds.items c.args.join.now c.args.counts.now c.args.asked
    (left_by c.args.join.now.bad c.args.asked c.is_some.result c.is_left_out.result true c.is_some.ensures
    c.is_left_out.ensures c.if-is_left_out.true)

pub returns-in-Some : goal.returns-in-Some
returns-in-Some c =
    let join = c.args.join.now in
    let items = c.args.numbered.now.founds.items in
    let found = line_found join c.args.asked items c.in-Some.number (c.in-Some.ensures join.answers c.requires) in
    address_counted items join c.args.counts.now c.count_number.new.self c.args.asked found.0
    (left_by c.args.join.now.bad c.args.asked c.is_some.result c.is_left_out.result false c.is_some.ensures
    c.is_left_out.ensures c.if-is_left_out.false) found.2 (c.count_number.ensures items found.0 found.1)

pub returns-in-Network : goal.returns-in-Network
returns-in-Network c =
    let text = c.as_bytes.ensures.value ∙ c.as_str.ensures.value ∙ c.canonical.ensures.bytes in
    address_counted_if c.args.numbered.now.founds.items c.count_text.result c.args.join.now c.args.counts.now
    c.count_text.new.self c.as_bytes.result.now c.args.asked c.find.result
    (left_by c.args.join.now.bad c.args.asked c.is_some.result c.is_left_out.result false c.is_some.ensures
    c.is_left_out.ensures c.if-is_left_out.false) c.find.ensures (ap mark_of c.in-Network.is ∙ sym text)
    c.count_text.ensures

pub returns-in-Value : goal.returns-in-Value
returns-in-Value c =
    address_counted_if c.args.numbered.now.founds.items c.count_text-in-Value.result c.args.join.now c.args.counts.now
    c.count_text-in-Value.new.self c.bytes.result.now c.args.asked c.find.result
    (left_by c.args.join.now.bad c.args.asked c.is_some.result c.is_left_out.result false c.is_some.ensures
    c.is_left_out.ensures c.if-is_left_out.false) c.find.ensures (ap mark_of c.in-Value.is ∙ sym c.bytes.ensures)
    c.count_text-in-Value.ensures

pub returns-in-Nothing : goal.returns-in-Nothing
returns-in-Nothing c =
    address_counted_if c.args.numbered.now.founds.items c.count_text-in-Nothing.result c.args.join.now c.args.counts.now
    c.count_text-in-Nothing.new.self _ c.args.asked c.find.result
    (left_by c.args.join.now.bad c.args.asked c.is_some.result c.is_left_out.result false c.is_some.ensures
    c.is_left_out.ensures c.if-is_left_out.false) c.find.ensures (ap mark_of c.in-Nothing.is)
    c.count_text-in-Nothing.ensures
