use Rattle.cidr_merge.proofs.Known.{◌++◌, ◌∷◌, [], ◌∙◌, ap, arith, decimal, append_assoc}
use Rattle.cidr_merge.proofs.elements.push_network.Goals as goal

pub returns-clause-bytes : goal.returns-clause-bytes
returns-clause-bytes g c =
    let canonical = g.A.Address.family.canonical in
    let text = c.args.text.now.bytes in
    let digits = decimal c.prefix.result in
    c.push_decimal.ensures.bytes
    ∙ ap (λ t. t ++ digits) (c.push.ensures.ascii (omega arith))
    ∙ append_assoc c.push_address.new.text.bytes (47 ∷ []) digits
    ∙ ap (λ t. t ++ 47 ∷ digits) c.push_address.ensures.bytes
    ∙ append_assoc text (canonical (g.A.Address.number c.ip.result)) (47 ∷ digits)
    ∙ ap (λ n. text ++ (canonical n ++ 47 ∷ digits)) c.ip.ensures.made
    ∙ ap (λ n. text ++ (canonical c.args.block.address ++ 47 ∷ decimal n)) c.prefix.ensures.made
