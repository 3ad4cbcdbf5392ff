use Rattle.cidr_merge.proofs.Known.{map, ordered_ended}
use Rattle.cidr_merge.proofs.inspecting.check_ordered.Goals as goal

pub returns : goal.returns
returns g c =
    ordered_ended c.args.strictly c.args.lists.now.rules c.args.lists.now.names.now (map
    (λ text. text.items) c.args.lists.now.texts.now) c.in-Ok.entries.items c.as_mut_slice.result.now
    c.as_mut_slice.ensures.value c.args.output.now c.check_lists-wrong.new.output c.check_ends_if-cut.new.output
    c.tell_ordered-more.new.output
    c.finish-written.new.self c.finish-written.result c.check_lists-wrong.result c.check_ends_if-cut.result
    c.tell_ordered-more.result c.either-rest.result c.either.result
    c.status.result c.end.result c.in-Ok.ensures c.check_lists-wrong.ensures c.check_ends_if-cut.ensures
    c.tell_ordered-more.ensures c.either-rest.ensures
    c.either.ensures c.status.ensures c.finish-written.ensures.ok c.finish-written.ensures.err
    c.finish-written.ensures.works c.finish-written.ensures.failed c.finish-written.ensures.stays c.end.ensures
