use Rattle.cidr_info.proofs.Known.{rules, ◌∙◌, ◌+◌, ◌++◌, ◌&&◌, ℕ, Bool, List, ap, sym, arith, append_assoc, drop, Option, is_none, IpNetwork, puts_more, puts_two, puts_it, fails_first, works_still, works_on, infos_from, if_some, networks_in, infos_more, networks_at}
use Rattle.cidr_info.proofs.printing.put_infos.Goals as goal

pub loop-said-preserved : goal.loop-said-preserved
loop-said-preserved g c =
    let h = c.loop-said.invariant in
    let i = c.loop-said.said-index in
    let first = c.loop-said.is_first in
    let network = c.said-item.result in
    let behind = networks_in (drop (i + 1) c.args.all.now) in
    let text = infos_from first c.args.form (if_some network) in
    let left = infos_from (first && is_none network) c.args.form behind in
    let same = ap (infos_from first c.args.form) (networks_at c.args.all.now i network (omega arith) c.said-item.is)
    ∙ infos_more first c.args.form network behind in (
      h.0 ++ text,
      puts_more _ _ _ _ _ _ h.0 text h.1 (rw c.network.ensures at c.in_ok-put_if_named.ensures.ok),
      works_on _ _ _ c.in_ok-put_if_named.ensures.failed h.2,
      ap (λ (b : Bool). (h.0 ++ text) ++ infos_from b c.args.form behind) (c.stays_first-is_first.ensures
          ∙ ap (λ (n : Option IpNetwork). first && is_none n) c.network-in-loop-said.ensures)
          ∙ append_assoc h.0 text left ∙ sym (ap (λ (t : List ℕ). h.0 ++ t) same) ∙ h.3,
    )

pub returns-in_err-put_if_named : goal.returns-in_err-put_if_named
returns-in_err-put_if_named g c =
    let h = c.loop-said.invariant in
    let i = c.loop-said.said-index in
    let first = c.loop-said.is_first in
    let network = c.said-item.result in
    let behind = networks_in (drop (i + 1) c.args.all.now) in
    let text = infos_from first c.args.form (if_some network) in
    let left = infos_from (first && is_none network) c.args.form behind in
    let same = ap (infos_from first c.args.form) (networks_at c.args.all.now i network (omega arith) c.said-item.is)
    ∙ infos_more first c.args.form network behind in
    puts_it c.from_residual.result c.args.output.now c.put_if_named.new.output (h.0 ++ (text ++ left)) _
    (sym (ap (λ (t : List ℕ). h.0 ++ t) same) ∙ h.3)
    (puts_two c.from_residual.result c.args.output.now c.loop-said.output c.put_if_named.new.output h.0 (text ++ left)
    h.1 (works_still _ _ h.2)
    (fails_first c.from_residual.result c.loop-said.output c.put_if_named.new.output text left (search rules)
    c.in_err-put_if_named.ensures.failed (rw c.network.ensures at c.in_err-put_if_named.ensures.beginning)))
