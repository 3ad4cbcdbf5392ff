use Rattle.ipnetwork_c.proofs.Known.{rules, On, Nothing, order_kept}
use Rattle.ipnetwork_c.proofs.questions.ipnetwork_compare.Goals as goal

pub returns : goal.returns
returns c = elim c.tell_both.ensures [
  | On h ↦ On (
    h.0,
    h.1,
    elim h.2 [ On k ↦ On (k.0, k.1, (k.2.0, search (rules, order_kept, k.2.1))) | Nothing r e ↦ Nothing r e ],
  )
  | Nothing r e ↦ Nothing r e
]
