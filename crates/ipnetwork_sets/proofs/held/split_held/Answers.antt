use Rattle.ipnetwork_sets.proofs.Known.{◌≡◌, ◌∷◌, length, map, ap, sym, ◌∙◌, arith, All-rest, Network, no_items}
use Rattle.ipnetwork_sets.proofs.held.split_held.Goals as goal

pub returns : goal.returns
returns g c =
    let held = g.H.HoldsNetwork.held in
    let e : c.args.list.now ≡ c.in-Some.first.now ∷ c.in-Some.others.now = c.in-Some.ensures.cases.0 in (
      ap (map held) e ∙ ap (λ (n : Network). n ∷ map held c.in-Some.others.now) (sym c.held_network.ensures),
      All-rest g.H.HoldsNetwork.holds c.in-Some.first.now c.in-Some.others.now c.args.list.now e c.requires,
      omega (arith, ap length e),
    )

pub returns-in_default : goal.returns-in_default
returns-in_default g c = no_items g.H.HoldsNetwork.held c.args.list.now c.in_default.ensures.cases
