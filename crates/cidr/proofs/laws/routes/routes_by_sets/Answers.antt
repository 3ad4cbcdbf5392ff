use Rattle.cidr.proofs.Known.{adds_get, drops_get, finds_get}
use Rattle.cidr.proofs.laws.routes.routes_by_sets.Goals as goal

pub returns-clause-add : goal.returns-clause-add
returns-clause-add c = adds_get c.subnets.ensures.same c.families_are_apart.ensures c.one_key_changes.ensures.insert
    c.one_key_changes.ensures.remove

pub returns-clause-drop : goal.returns-clause-drop
returns-clause-drop c = drops_get c.subnets.ensures.same c.families_are_apart.ensures c.one_key_changes.ensures.insert
    c.one_key_changes.ensures.remove

pub returns-clause-find : goal.returns-clause-find
returns-clause-find c = finds_get c.blocks-2.ensures.same_set
    (record {
      empty = c.keys_without_host_bits.ensures.empty;
      insert = c.keys_without_host_bits.ensures.insert;
      remove =
          c.keys_without_host_bits.ensures.remove;
    })
