use Rattle.ipnetwork_addr.proofs.Known.{◌≡◌, ◌+◌, ◌-◌, refl, ap, ◌∙◌, arith, JOINED, joined_positions, row}
use Rattle.ipnetwork_addr.proofs.octet_tables.joined_positions.Goals as goal

pub returns : goal.returns
returns c =
    let is : c.args.count - 8 + 8 ≡ c.args.count = omega arith in
    row JOINED (λ r. joined_positions (r + 8)) 8 refl (c.args.count - 8) (c.args.count - 8) (omega arith) refl
    ∙ ap joined_positions is
