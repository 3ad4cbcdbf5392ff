use Rattle.ipnetwork_addr.proofs.Known.{arith, no_octet_at, no_octet_before_at, octet_before_at}
use Rattle.ipnetwork_addr.proofs.octet.read_octet_and_dot.Goals as goal

pub returns-then-text-end-ne46 : goal.returns-then-text-end-ne46
returns-then-text-end-ne46 c =
    no_octet_at c.args.text.now c.args.at _ c.if-text-at-eq46.false c.is_no_dot.ensures.value c.if-text-end-ne46.true

pub returns-in_err-octet : goal.returns-in_err-octet
returns-in_err-octet c =
    rw c.from_residual.ensures (no_octet_before_at c.args.text.now c.args.at _ (omega arith) c.if-text-at-eq46.false
    c.is_no_dot.ensures.value c.if-text-end-ne46.false c.in_err-octet.ensures)

pub returns : goal.returns
returns c = (
  omega arith,
  octet_before_at c.args.text.now c.args.at _ _ (omega arith) c.if-text-at-eq46.false
      c.is_no_dot.ensures.value c.if-text-end-ne46.false c.in_ok-octet.ensures,
)
