use Rattle.ipnetwork_c.proofs.Known.{◌-◌, [], sym, arith, IfSome_then, number_of_octets, none_near, told_near}
use Rattle.ipnetwork_c.proofs.halves.contains.Goals as goal

pub returns-then-begins_after : goal.returns-then-begins_after
returns-then-begins_after c =
    none_near c.args.list.now (number_of_octets c.args.address.now) c.one_block.ensures.one
    (c.begins_after.ensures c.if-begins_after.true (number_of_octets c.args.address.now) (sym c.high_half-half.ensures))

pub returns-then-begins_after-2 : goal.returns-then-begins_after-2
returns-then-begins_after-2 c =
    let half_is = sym c.high_half-half.ensures in
    let next = c.begins_after-2.ensures c.if-begins_after-2.true (number_of_octets c.args.address.now) half_is in
    IfSome_then c.answer_of.result c.answer_of.ensures
    (λ byte tells. told_near c.args.list.now (record { address = []; prefix = 0 }) (number_of_octets c.args.address.now)
    (c.end_of-end.result - 1) (c.end_of-end.result - 2) byte
    c.one_block.ensures.one (omega arith) (omega arith) next (tells (number_of_octets c.args.address.now) half_is))

pub returns : goal.returns
returns c =
    let half_is = sym c.high_half-half.ensures in
    let next = c.begins_after-else-end-list.ensures c.if-not-begins_after.false
    (number_of_octets c.args.address.now) half_is in
    IfSome_then c.answer_of-2.result c.answer_of-2.ensures
    (λ byte tells. told_near c.args.list.now (record { address = []; prefix = 0 }) (number_of_octets c.args.address.now)
    c.end_of-end.result (c.end_of-end.result - 1) byte
    c.one_block.ensures.one (omega arith) (omega arith) next (tells (number_of_octets c.args.address.now) half_is))
