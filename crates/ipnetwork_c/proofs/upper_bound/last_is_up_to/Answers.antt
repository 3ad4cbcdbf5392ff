use Rattle.ipnetwork_c.proofs.Known.{map, refl, arith, read_before_tells, none_last}
use Rattle.ipnetwork_c.proofs.upper_bound.last_is_up_to.Goals as goal

pub returns-then-last-list : goal.returns-then-last-list
returns-then-last-list g c = (
  (λ _. none_last (map g.H.HoldsNetwork.held c.args.list.now) (g.H.Numbered.value c.args.number) c.args.at
      (omega arith)),
  (λ _. refl),
)

pub returns : goal.returns
returns g c =
    read_before_tells g.H.HoldsNetwork.held c.args.list.now (g.H.Numbered.value c.args.number) c.args.at _
    c.index-list-last.result c.begins_up_to.result
    c.index-list-last.is (omega arith) (omega arith) (omega arith) c.begins_up_to.ensures
