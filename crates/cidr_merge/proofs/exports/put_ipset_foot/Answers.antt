use Rattle.cidr_merge.proofs.Known.{◌∙◌, ℕ, List, ap, subst, sym, Names, PutsOrFails, foot_of_both}
use Rattle.cidr_merge.proofs.exports.put_ipset_foot.Goals as goal

pub returns-in-None : goal.returns-in-None
returns-in-None g c =
    subst (λ (t : List ℕ). PutsOrFails c.put_all-in-None.result c.args.output.now c.put_all-in-None.new.output t)
    (foot_of_both c.args.names.now c.as_str-set.result.now
    (c.as_str-set.ensures.value ∙ ap (λ (n : Names). n.set) c.names.view_is)
    (sym (ap (λ (n : Names). n.only) c.names.view_is) ∙ c.in-None.is))
    c.put_all-in-None.ensures
