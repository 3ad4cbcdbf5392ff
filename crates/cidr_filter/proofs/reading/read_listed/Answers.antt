use Rattle.cidr_filter.proofs.Known.{◌∙◌, ap, all_read, all_stopped, nothing_read}
use Rattle.cidr_filter.proofs.reading.read_listed.Goals as goal

pub returns-clause-read : goal.returns-clause-read
returns-clause-read g c =
    all_read c.read_lists-end.result (g.L.OpenLists.known c.args.lists.now) c.args.items.now c.args.question _
    c.new-reader.result c.read_lists-end.new.reader _ _
    c.new.ensures
    (c.new-reader.ensures ∙ ap (λ rules. nothing_read rules c.new.result) c.rules_of.ensures) c.read_lists-end.ensures.read c.read_lists-end.ensures.memory
    c.listed_by-listed.ensures.listed c.listed_by-listed.ensures.refused

pub returns-clause-stopped : goal.returns-clause-stopped
returns-clause-stopped g c =
    all_stopped c.read_lists-end.result (g.L.OpenLists.known c.args.lists.now) c.args.items.now _ c.new-reader.result
    c.read_lists-end.new.reader _
    c.new.ensures
    (c.new-reader.ensures ∙ ap (λ rules. nothing_read rules c.new.result) c.rules_of.ensures) c.read_lists-end.ensures.stopped c.listed_by-listed.ensures.refused
