use Rattle.ipnetwork_addr.proofs.Known.{arith, is_nil, not_nil, fits_one, fits_two, so_far_more, ends_last, ends_at_gap, ends_dotted, no_group_on, no_room, no_other_byte, no_dotted, no_room_dotted}
use Rattle.ipnetwork_addr.proofs.group.read_part.Goals as goal

pub returns-in_err-group : goal.returns-in_err-group
returns-in_err-group c = rw c.from_residual.ensures (no_group_on c.loop-count.invariant c.in_err-group.ensures)

pub append-requires : goal.append-requires
append-requires c = fits_one c.loop-count.invariant c.loop-count-test.true c.requires

pub returns-then-is_empty : goal.returns-then-is_empty
returns-then-is_empty c =
    rw c.append.ensures (ends_last c.loop-count.invariant c.in_ok-group.ensures
    (is_nil _ _ c.is_empty.ensures c.if-is_empty.true) c.loop-count-test.true)

pub returns-in_default-after_byte : goal.returns-in_default-after_byte
returns-in_default-after_byte c =
    no_other_byte c.loop-count.invariant c.in_ok-group.ensures (not_nil _ _ c.is_empty.ensures c.if-is_empty.false)
    c.in_default.ensures c.in_default-after_byte.ensures

pub returns-then-count-room : goal.returns-then-count-room
returns-then-count-room c =
    no_room_dotted c.loop-count.invariant c.in_ok-group.ensures (not_nil _ _ c.is_empty.ensures c.if-is_empty.false)
    c.in_default.ensures c.if-count-room.true

pub returns-in_err-address : goal.returns-in_err-address
returns-in_err-address c =
    rw c.from_residual-in_err-address.ensures (no_dotted c.loop-count.invariant c.in_ok-group.ensures
    (not_nil _ _ c.is_empty.ensures c.if-is_empty.false) c.in_default.ensures c.in_err-address.ensures)

pub append_v4-requires : goal.append_v4-requires
append_v4-requires c = fits_two c.loop-count.invariant c.if-count-room.false c.requires

pub returns-in_default : goal.returns-in_default
returns-in_default c =
    rw c.append_v4.ensures (ends_dotted c.loop-count.invariant c.in_ok-address.ensures c.if-count-room.false
    (omega arith))

pub append-number-requires : goal.append-number-requires
append-number-requires c = fits_one c.loop-count.invariant c.loop-count-test.true c.requires

pub returns-in-Some-after_byte-2 : goal.returns-in-Some-after_byte-2
returns-in-Some-after_byte-2 c =
    rw c.append-number.ensures (ends_at_gap c.loop-count.invariant c.in_ok-group.ensures c.in-Some.ensures
    c.in-Some-after_byte-2.ensures c.loop-count-test.true)

pub loop-count-preserved : goal.loop-count-preserved
loop-count-preserved c =
    rw c.append-number.ensures (so_far_more c.loop-count.invariant c.in_ok-group.ensures c.in-Some.ensures
    c.in_default-after_byte-2.ensures)

pub returns : goal.returns
returns c = no_room c.loop-count.invariant (omega arith)
