use Rattle.ipnetwork_addr.proofs.Known.{arith, last_are_digits, group_up_to}
use Rattle.ipnetwork_addr.proofs.colons_at_once.read_group.Goals.{else-end-text-via-then-end-text+else-text-end-ne58, else-end-text-via-else-end-text}
use Rattle.ipnetwork_addr.proofs.colons_at_once.read_group.Goals as goal

pub group_of-requires : goal.group_of-requires
group_of-requires c = last_are_digits c.from_be_bytes.result _ c.from_be_bytes.type_inv c.if-digits-ne0.false

pub returns : goal.returns
returns c =
    rw c.group_of.ensures (group_up_to c.args.text.now c.args.values.now c.args.at c.args.end c.from_be_bytes.result
    c.requires.shown c.fits-values c.from_be_bytes.ensures c.if-text-end.false
    (elim c.else-end-text.branch [
      | else-end-text-via-then-end-text+else-text-end-ne58 w ↦ λ low. w.if-text-end-ne58.false
      | else-end-text-via-else-end-text w ↦ λ low. omega (arith, low, w.if-end-text.false)
    ])
    c.if-end-at.false c.if-end-at-gt4.false
    (last_are_digits c.from_be_bytes.result _ c.from_be_bytes.type_inv c.if-digits-ne0.false))
