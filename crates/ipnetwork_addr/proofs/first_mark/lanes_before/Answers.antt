use Rattle.ipnetwork_addr.proofs.Known.{eqb, sym, ap, ◌∙◌, arith, w8, bitmask_splat, leading_from_mask_l, trailing_mask_l}
use Rattle.ipnetwork_addr.proofs.first_mark.lanes_before.Goals as goal
use lib.Count.{count_trailing_zeros}

pub returns-then-lanes-eq0 : goal.returns-then-lanes-eq0
returns-then-lanes-eq0 c =
    let v = c.args.bytes in
    let marks = bitmask_splat w8 eqb v 8 c.args.byte c.fits-bytes.0 (omega arith) in
    sym (leading_from_mask_l (λ x. eqb x c.args.byte) v (sym marks ∙ c.if-lanes-eq0.true) ∙ c.fits-bytes.0)

pub returns-else-lanes-eq0 : goal.returns-else-lanes-eq0
returns-else-lanes-eq0 c =
    let v = c.args.bytes in
    let marks = bitmask_splat w8 eqb v 8 c.args.byte c.fits-bytes.0 (omega arith) in
    ap (count_trailing_zeros 64) marks ∙ trailing_mask_l (λ x. eqb x c.args.byte) 64 v (omega (arith, c.fits-bytes.0))
    (omega arith)
