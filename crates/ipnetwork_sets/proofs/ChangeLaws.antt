-- The laws of adding networks to a set and removing them.
use Rattle.ipnetwork_sets.proofs.Words.{inl, inr, ⊎_elim, [], ◌∷◌, Member, InUnion, AddedHas, TakenHas}
use Rattle.ipnetwork_sets.proofs.JoinedAround.{union_of_one_network}
use Rattle.ipnetwork_sets.proofs.SetLaws.{union_is_shortest, difference_is_shortest}

pub added_has : AddedHas
added_has w a n blocks h x =
    let all = (union_is_shortest w a (n ∷ []) blocks h).addresses x in (
      (λ c. ⊎_elim
          (λ (d : InUnion w a x). inl d)
          (λ (d : InUnion w (n ∷ []) x). inr ((union_of_one_network w n x).0 d))
          (all.0 c)),
      (λ o. all.1 (⊎_elim
          (λ (d : InUnion w a x). inl d)
          (λ (m : Member w n x). inr ((union_of_one_network w n x).1 m))
          o)),
    )

pub taken_has : TakenHas
taken_has w a n blocks h x =
    let all = (difference_is_shortest w a (n ∷ []) blocks h).addresses x in (
      (λ c. let p = all.0 c in (p.0, λ m. p.1 ((union_of_one_network w n x).1 m))),
      (λ p. all.1 (p.0, λ c. p.1 ((union_of_one_network w n x).0 c))),
    )
