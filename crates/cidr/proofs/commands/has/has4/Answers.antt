use Rattle.cidr.proofs.Known.{Ok, cond, codes, ap, refl, membership_computed, has4_answer, adds, gives_none, same_test}
use Rattle.std.proofs.Common.{Err}
use Rattle.cidr.proofs.commands.has.has4.Goals as goal

pub returns-in_default : goal.returns-in_default
returns-in_default c =
    let network = (c.v4_network_reading_is_computed.ensures c.args.network.now (Err c.in_default.field-0)).0
    c.in_default.ensures in
    adds _ _ (codes "refused network") (has4_answer c.args.network.now c.args.address.now) c.reply.ensures
    (rw (← network) refl)

pub returns-in_default-read_bytes : goal.returns-in_default-read_bytes
returns-in_default-read_bytes c =
    let network = (c.v4_network_reading_is_computed.ensures c.args.network.now (Ok c.in-Ok.network)).0
    c.in-Ok.ensures in
    let none = gives_none _ (λ x e. c.in_default-read_bytes.ensures.1 x
    ((c.v4_text_is_computed.ensures c.args.address.now x).1 e)) in
    adds _ _ (codes "refused address") (has4_answer c.args.network.now c.args.address.now)
    c.reply-in_default-read_bytes.ensures (rw (← network, none) refl)

pub returns : goal.returns
returns c =
    let network = (c.v4_network_reading_is_computed.ensures c.args.network.now (Ok c.in-Ok.network)).0
    c.in-Ok.ensures in
    let address = (c.v4_text_is_computed.ensures c.args.address.now c.in-Ok-read_bytes.address).0
    c.in-Ok-read_bytes.ensures in
    let tested = same_test _ _ _ c.contains.ensures (membership_computed 32 c.in-Ok.network c.in-Ok-read_bytes.address)
    in
    adds _ _ (cond c.contains.result (codes "yes") (codes "no")) (has4_answer c.args.network.now c.args.address.now)
    c.reply_whether.ensures
    (rw (← network, address) (ap (λ b. cond b (codes "yes") (codes "no")) tested))
