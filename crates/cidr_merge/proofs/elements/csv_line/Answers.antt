use Rattle.cidr_merge.proofs.Known.{◌++◌, ◌∷◌, [], ◌∙◌, ap, arith, text_of, low, family_name}
use Rattle.cidr_merge.proofs.elements.csv_line.Goals as goal

pub returns : goal.returns
returns g c =
    let canonical = g.A.Address.family.canonical in
    let number = g.A.Address.number in
    let network = text_of g.A.Address.family c.args.block in
    let first = canonical (number c.network.result) in
    let last = canonical (number c.broadcast.result) in
    c.push-4.ensures.ascii (omega arith)
    ∙ ap (λ t. t ++ 10 ∷ []) c.push_address-2.ensures.bytes
    ∙ ap (λ t. t ++ last ++ 10 ∷ []) (c.push-3.ensures.ascii (omega arith))
    ∙ ap (λ t. t ++ 44 ∷ [] ++ last ++ 10 ∷ []) c.push_address.ensures.bytes
    ∙ ap (λ t. t ++ first ++ 44 ∷ [] ++ last ++ 10 ∷ []) (c.push-2.ensures.ascii (omega arith))
    ∙ ap (λ t. t ++ 44 ∷ [] ++ first ++ 44 ∷ [] ++ last ++ 10 ∷ []) c.push_network.ensures.bytes
    ∙ ap (λ t. t ++ network ++ 44 ∷ [] ++ first ++ 44 ∷ [] ++ last ++ 10 ∷ [])
    (c.push.ensures.ascii (omega arith))
    ∙ ap (λ t. t ++ 44 ∷ [] ++ network ++ 44 ∷ [] ++ first ++ 44 ∷ [] ++ last
    ++ 10 ∷ []) c.push_str.ensures.bytes
    ∙ ap (λ t. t ++ c.family_name.result.now ++ 44 ∷ [] ++ network ++ 44 ∷ [] ++ first ++ 44 ∷ []
    ++ last ++ 10 ∷ []) c.new-text.ensures
    ∙ ap (λ t. t ++ 44 ∷ [] ++ network ++ 44 ∷ [] ++ first ++ 44 ∷ [] ++ last
    ++ 10 ∷ []) c.family_name.ensures.name
    ∙ ap (λ n. family_name c.args.version ++ 44 ∷ [] ++ network ++ 44 ∷ [] ++ canonical n ++ 44 ∷ []
    ++ last ++ 10 ∷ []) c.network.ensures.least
    ∙ ap (λ n. family_name c.args.version ++ 44 ∷ [] ++ network ++ 44 ∷ []
    ++ canonical (low g.A.Address.WIDTH c.args.block) ++ 44 ∷ [] ++ canonical n ++ 10 ∷ [])
    c.broadcast.ensures
