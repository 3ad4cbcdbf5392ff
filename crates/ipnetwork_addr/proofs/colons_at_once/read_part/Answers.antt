use Rattle.ipnetwork_addr.proofs.Known.{arith, drop, drop_all, fits_one, so_far_none, so_far_more, ends_last, ends_at_gap, at_colon, no_colon_at, second_colon}
use Rattle.ipnetwork_addr.proofs.colons_at_once.read_part.Goals.{else-at-text-via-then-at-text+else-text-at-eq58, else-at-text-via-else-at-text}
use Rattle.ipnetwork_addr.proofs.colons_at_once.read_part.Goals as goal

pub loop-count-init : goal.loop-count-init
loop-count-init c = so_far_none (drop c.args.from c.args.text.now)

pub append-number-requires : goal.append-number-requires
append-number-requires c = fits_one c.loop-count.invariant c.loop-count-test.true c.requires.few

pub returns-then-end-text : goal.returns-then-end-text
returns-then-end-text c =
    rw c.append-number.ensures (ends_last c.loop-count.invariant c.in_ok-group.ensures.begins
    (drop_all _ c.args.text.now (omega arith)) c.loop-count-test.true)

pub returns-then-text-at-eq58 : goal.returns-then-text-at-eq58
returns-then-text-at-eq58 c =
    rw c.append-number.ensures (ends_at_gap c.loop-count.invariant c.in_ok-group.ensures.begins
    (at_colon c.in_ok-group.ensures c.if-end-text.false)
    (second_colon c.args.text.now _ c.if-at-text.true c.if-text-at-eq58.true) c.loop-count-test.true)

pub loop-count-preserved : goal.loop-count-preserved
loop-count-preserved c =
    rw c.append-number.ensures (so_far_more c.loop-count.invariant c.in_ok-group.ensures.begins
    (at_colon c.in_ok-group.ensures c.if-end-text.false)
    (no_colon_at c.args.text.now _ (elim c.else-at-text.branch [
      | else-at-text-via-then-at-text+else-text-at-eq58 w ↦ λ low. w.if-text-at-eq58.false
      | else-at-text-via-else-at-text w ↦ λ low. absurd (omega (arith, low, w.if-at-text.false))
    ])))
