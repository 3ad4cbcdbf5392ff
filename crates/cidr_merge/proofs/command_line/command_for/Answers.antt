use Rattle.cidr_merge.proofs.Known.{◌∙◌, List, ap, arith, length, map, sym, string_bytes, length-append, length-map, from_of, Item}
use Rattle.cidr_merge.proofs.command_line.command_for.Goals as goal

pub returns-clause-within : goal.returns-clause-within
returns-clause-within c =
    let froms = λ (items : List Item). from_of c.args.task items in
    let before = c.in_ok-names.names.items in
    let grown = c.add_from.new.names.items in
    let more = ap length c.in_ok-add_from.ensures in
    let some = length-append (map string_bytes before) (froms c.as_slice-3.result.now) in
    let old = length-map before string_bytes in
    let new = length-map grown string_bytes in
    let all = ap length c.in_ok-append-2.ensures.items in
    let ends = length-append grown c.in_ok-second.second.items in
    let same = ap (λ (items : List Item). length (froms items)) (c.as_slice-items.ensures.value
    ∙ sym c.as_slice-3.ensures.value) in
    let middle = c.len-middle.ensures in
    c.asked_for.ensures.within (length c.append-2.new.self.items)
    (omega (arith, more, some, old, new, all, ends, same, middle))
