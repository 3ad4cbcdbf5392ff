use Rattle.allotting.proofs.Known.{◌≡◌, ◌++◌, ◌∷◌, ◌∙◌, [], ap, arith, filling_lacks, filling_passes, filling_takes, get_or, map, map-append}
use Rattle.allotting.proofs.placed.fill_place.Goals as goal

pub returns-then-lengths-at-clause-filled : goal.returns-then-lengths-at-clause-filled
returns-then-lengths-at-clause-filled g c = λ first pool used h.
    filling_passes g.N.CidrNetwork.pair g.N.CidrNetwork.WIDTH first used c.args.lengths.now pool
    (map g.N.CidrNetwork.pair c.args.taken.now.items) c.args.blocks.now c.args.places.now c.args.prefix c.args.at
    (λ (e : get_or c.args.lengths.now c.args.at 0 ≡ c.args.prefix). omega (arith, e)) h

pub returns-in_default-clause-filled : goal.returns-in_default-clause-filled
returns-in_default-clause-filled g c = λ first pool used h.
    let here : get_or c.args.lengths.now c.args.at 0 ≡ c.args.prefix = omega arith in
    filling_lacks g.N.CidrNetwork.pair g.N.CidrNetwork.WIDTH first used c.args.lengths.now pool
    (map g.N.CidrNetwork.pair c.args.taken.now.items) c.args.blocks.now c.next.new.self c.args.places.now
    c.args.at c.args.prefix c.requires.at here h c.in_default.ensures.steps

pub returns-clause-filled : goal.returns-clause-filled
returns-clause-filled g c = λ first pool used h.
    let here : get_or c.args.lengths.now c.args.at 0 ≡ c.args.prefix = omega arith in
    let pair = g.N.CidrNetwork.pair in
    filling_takes pair g.N.CidrNetwork.WIDTH first used c.args.lengths.now pool
    (map pair c.args.taken.now.items) c.args.blocks.now c.next.new.self c.args.places.now
    c.args.at c.args.prefix c.requires.at here h c.in-Some.block (map pair c.push.new.self.items) c.in-Some.ensures.steps
    (ap (map pair) c.in_ok-push.ensures.items ∙ map-append pair c.args.taken.now.items (c.in-Some.block ∷ []))
