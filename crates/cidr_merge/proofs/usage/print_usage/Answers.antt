use Rattle.cidr_merge.proofs.Known.{◌≡◌, ◌∙◌, ◌&&◌, false, not, ap, count_number, counts_within, ends_writing, inr, is_allowed, none_lacks, refl, sym, usage_lines, v4_family, v6_family}
use Rattle.cidr_merge.specs.Usages.{lacks_used}
use Rattle.cidr_merge.proofs.usage.print_usage.Goals as goal
use Rattle.cidr_merge.proofs.usage.print_usage.Goals.{else-lacks_used-via-then-lacks_used+else-not-request, else-lacks_used-via-else-lacks_used}

pub write_usage-written-requires-clause-v4 : goal.write_usage-written-requires-clause-v4
write_usage-written-requires-clause-v4 g c =
    counts_within count_number 32 c.args.pools.now.v4 c.args.used.now.v4 c.as_slice.result.now
    (rw c.as_slice.ensures.value c.in-Ok-Ok.ensures)

pub write_usage-written-requires-clause-v6 : goal.write_usage-written-requires-clause-v6
write_usage-written-requires-clause-v6 g c =
    counts_within count_number 128 c.args.pools.now.v6 c.args.used.now.v6 c.as_slice-2.result.now
    (rw c.as_slice-2.ensures.value c.in-Ok-Ok.ensures')

pub returns : goal.returns
returns g c =
    let lacks = lacks_used c.args.pools.now c.args.used.now in
    let wrong = not c.args.request.now.merge.allows_empty in
    let allowed : (lacks && wrong) ≡ false = elim c.else-lacks_used.branch [
      | else-lacks_used-via-then-lacks_used+else-not-request w ↦ is_allowed lacks wrong (ap not w.if-not-request.false)
      | else-lacks_used-via-else-lacks_used w ↦ none_lacks lacks wrong (sym c.lacks_used.ensures ∙ w.if-lacks_used.false)
    ] in
    let v4 = usage_lines count_number 32 c.args.pools.now.v4 c.args.used.now.v4 c.as_slice.result.now
    (rw c.as_slice.ensures.value c.in-Ok-Ok.ensures) c.args.names.now v4_family in
    let v6 = usage_lines count_number 128 c.args.pools.now.v6 c.args.used.now.v6 c.as_slice-2.result.now
    (rw c.as_slice-2.ensures.value c.in-Ok-Ok.ensures') c.args.names.now v6_family in
    inr (
      allowed,
      _,
      (_, _, v4, v6, refl),
      ends_writing c.write_usage-written.result c.args.output.now c.write_usage-written.new.output _
          c.status-status.result _ c.end.result c.write_usage-written.ensures c.end.ensures c.status-status.ensures,
    )
