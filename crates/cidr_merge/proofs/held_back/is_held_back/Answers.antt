use Rattle.cidr_merge.proofs.Known.{◌&&◌, ◌||◌, ◌∙◌, ap, nat_lt, not, lacks_some}
use Rattle.cidr_merge.proofs.held_back.is_held_back.Goals as goal

pub returns : goal.returns
returns g c =
    let l = c.lacking-lacking.ensures in
    record {
      networks = l.0;
      allowed_v4 = c.is_allowed-v4.result;
      allowed_v6 = c.is_allowed-v6.result;
      counted = l.1;
      v4 = c.is_allowed-v4.ensures;
      v6 = c.is_allowed-v6.ensures;
      held_is = c.is_either.ensures ∙ ap (λ lacks. lacks || not (c.is_allowed-v4.result && c.is_allowed-v6.result))
          (lacks_some c.least_number-least.result l.0 c.lacking-lacking.result l.2
          ∙ ap (λ least. nat_lt l.0 least) c.least_number-least.ensures);
    }
