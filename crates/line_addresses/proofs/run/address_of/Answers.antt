use Rattle.line_addresses.proofs.Known.{sym, none_named}
use Rattle.line_addresses.proofs.run.address_of.Goals as goal

pub returns-in-Ok : goal.returns-in-Ok
returns-in-Ok c = sym ((c.named_address.ensures c.args.text.now c.in-Ok.address).0 c.in-Ok.ensures)

pub returns-in-Err : goal.returns-in-Err
returns-in-Err c = sym (none_named _
    (λ address e. c.in-Err.ensures.1 address ((c.named_address.ensures c.args.text.now address).1 e)))
