use Rattle.ipnetwork_c.proofs.Known.{ap, refl, sym, ◌∙◌, V4, V6, On, Nothing, NoPrefix, member_of, v4_told, v6_told, says}
use Rattle.ipnetwork_c.proofs.either.ipnetwork_contains.Goals as goal
use Rattle.ipnetwork_c.proofs.either.ipnetwork_contains.Goals.{then-network-eq-V4+in-Some-network, else-network-eq-V4+then-network-eq-V6+in-Some-network-2}

pub returns-in-None : goal.returns-in-None
returns-in-None c =
    On (
      _,
      sym c.in-Some.ensures,
      Nothing
          (NoPrefix _ (v4_told c.args.network.now c.if-network-eq-V4.true) c.in-None.ensures refl) refl,
    )

pub returns-in-None-network : goal.returns-in-None-network
returns-in-None-network c =
    On (
      _,
      sym c.in-Some.ensures,
      Nothing
          (NoPrefix _ (v6_told c.args.network.now c.if-network-eq-V6.true) c.in-None-network.ensures refl) refl,
    )

pub returns : goal.returns
returns c = elim c.if-network-eq-V4.branch [
  | then-network-eq-V4+in-Some-network w ↦
      let is = w.in-Some-network.ensures in
      On (
        _,
        sym c.in-Some.ensures,
        On (
          _,
          record { told = (v4_told c.args.network.now w.if-network-eq-V4.true); fits = is.0 },
          (refl, says _ _ _ c.from.ensures (member_of _ _ _ _ (w.held-is ∙ ap V4 is.1) c.contains.ensures)),
        ),
      )
  | else-network-eq-V4+then-network-eq-V6+in-Some-network-2 w ↦
      let is = w.in-Some-network-2.ensures in
      On (
        _,
        sym c.in-Some.ensures,
        On (
          _,
          record { told = (v6_told c.args.network.now w.if-network-eq-V6.true); fits = is.0 },
          (refl, says _ _ _ c.from.ensures (member_of _ _ _ _ (w.held-is ∙ ap V6 is.1) c.contains.ensures)),
        ),
      )
]
