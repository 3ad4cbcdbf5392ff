use Rattle.ipnetwork_c.proofs.Known.{rules, On, Nothing}
use Rattle.ipnetwork_c.proofs.questions.ipnetwork_broadcast.Goals as goal

pub returns : goal.returns
returns c = elim c.tell.ensures [
  | On h ↦ On (h.0, h.1, (h.2.0, search (rules, h.2.1)))
  | Nothing r e ↦ Nothing r e
]
