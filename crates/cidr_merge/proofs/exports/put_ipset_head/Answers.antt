use Rattle.cidr_merge.proofs.Known.{◌∙◌, ℕ, List, ap, subst, sym, Names, PutsOrFails, head_of_both}
use Rattle.cidr_merge.proofs.exports.put_ipset_head.Goals as goal

pub returns-in-None : goal.returns-in-None
returns-in-None g c =
    subst (λ (t : List ℕ). PutsOrFails c.put_all.result c.args.output.now c.put_all.new.output t)
    (head_of_both c.args.names.now c.as_str-set.result.now _
    (c.as_str-set.ensures.value ∙ ap (λ (n : Names). n.set) c.names.view_is)
    (ap (λ (n : Names). n.limit) c.names.view_is)
    (sym (ap (λ (n : Names). n.only) c.names.view_is) ∙ c.in-None.is))
    c.put_all.ensures
