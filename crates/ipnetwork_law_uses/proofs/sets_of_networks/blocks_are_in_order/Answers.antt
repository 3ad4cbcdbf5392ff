use Rattle.ipnetwork_law_uses.proofs.sets_of_networks.blocks_are_in_order.Goals as goal

pub returns-clause-v4 : goal.returns-clause-v4
returns-clause-v4 c =
    λ a b d k l m p q r s. (
      c.order.ensures.after 32 a d k m p r s,
      (λ t u. c.order.ensures.between 32 a b d k l m p q r s t u),
    )

pub returns-clause-v6 : goal.returns-clause-v6
returns-clause-v6 c =
    λ a b d k l m p q r s. (
      c.order.ensures.after 128 a d k m p r s,
      (λ t u. c.order.ensures.between 128 a b d k l m p q r s t u),
    )
