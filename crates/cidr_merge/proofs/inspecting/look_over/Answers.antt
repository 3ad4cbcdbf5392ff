use Rattle.cidr_merge.proofs.inspecting.look_over.Goals as goal

pub returns-in-Check : goal.returns-in-Check
returns-in-Check g c = rw c.in-Check.is c.check.ensures

pub returns-in-Strict : goal.returns-in-Strict
returns-in-Strict g c = rw c.in-Strict.is c.check_ordered.ensures

pub returns-in-Overlaps : goal.returns-in-Overlaps
returns-in-Overlaps g c = rw c.in-Overlaps.is c.check_ordered-in-Overlaps.ensures
