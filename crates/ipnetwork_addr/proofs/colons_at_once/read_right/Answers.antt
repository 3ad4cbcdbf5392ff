use Rattle.ipnetwork_addr.proofs.Known.{drop, ap, drop_all, option_map, right_empty, right_part}
use Rattle.ipnetwork_addr.proofs.colons_at_once.read_right.Goals as goal

pub returns-then-text-from : goal.returns-then-text-from
returns-then-text-from c = right_empty _ _ (drop_all c.args.from c.args.text.now c.if-text-from.true)

pub returns-in-None : goal.returns-in-None
returns-in-None c =
    right_part _ _ _ _ _ c.in_ok-number.ensures
    (ap (λ end. option_map (λ at. drop at c.args.text.now) end) c.in-None.is)
