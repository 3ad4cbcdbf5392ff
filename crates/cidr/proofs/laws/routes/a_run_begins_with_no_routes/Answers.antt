use Rattle.cidr.proofs.Known.{first_find, first_drop, first_add}
use Rattle.cidr.proofs.laws.routes.a_run_begins_with_no_routes.Goals as goal

pub returns-clause-find : goal.returns-clause-find
returns-clause-find c = first_find c.lines_about_routes.ensures.find c.routes_by_sets.ensures.find

pub returns-clause-drop : goal.returns-clause-drop
returns-clause-drop c = first_drop c.lines_about_routes.ensures.drop

pub returns-clause-add : goal.returns-clause-add
returns-clause-add c = first_add c.lines_about_routes.ensures.add
