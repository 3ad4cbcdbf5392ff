use Rattle.cidr_merge.proofs.Known.{◌∙◌, ap, Names, nothing_read, source, side_ok, side_stopped}
use Rattle.cidr_merge.proofs.reading.read_side.Goals as goal

pub returns-clause-read : goal.returns-clause-read
returns-clause-read g c =
    side_ok c.read_all-end.result (source
    (g.L.OpenLists.known c.args.context.now.lists.now) c.args.context.now.sets.now.fields c.args.shape)
    _ c.args.context.now.sets.now.only c.args.first c.args.names.now c.args.refusals _ c.new-reader.result
    c.read_all-end.new.reader _ (c.new-reader.ensures ∙ ap (λ rules. nothing_read rules c.args.refusals) c.rules_of.ensures) c.read_all-end.ensures.read
    c.read_all-end.ensures.memory (ap (λ (names : Names). names.only) c.sets.view_is) c.into_sets-v4.ensures.v4 c.into_sets-v4.ensures.v6
    c.into_sets-v4.ensures.refused

pub returns-clause-stopped : goal.returns-clause-stopped
returns-clause-stopped g c =
    side_stopped c.read_all-end.result (source
    (g.L.OpenLists.known c.args.context.now.lists.now) c.args.context.now.sets.now.fields c.args.shape) c.args.first
    c.args.names.now c.args.refusals c.new-reader.result (c.new-reader.ensures ∙ ap (λ rules. nothing_read rules c.args.refusals) c.rules_of.ensures) c.read_all-end.ensures.stopped
