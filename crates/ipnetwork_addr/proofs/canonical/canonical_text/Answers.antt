use Rattle.ipnetwork_addr.proofs.Known.{◌∙◌, arith, sym, common_steps, segments_back, not_from_test, printed_mapped, printed_gap, printed_whole}
use Rattle.ipnetwork_addr.proofs.canonical.canonical_text.Goals as goal

pub returns-then-is_mapped : goal.returns-then-is_mapped
returns-then-is_mapped c =
    printed_mapped _ _ _ _ _ _ (c.is_mapped.ensures.0 c.if-is_mapped.true) c.new-text.ensures c.push_str.ensures.bytes
    (c.as_str.ensures.value ∙ c.canonical-last.ensures.bytes)
    (c.from.ensures ∙ c.last_two.ensures) c.push_str-then-is_mapped.ensures.bytes

pub returns-then-len-ge-SHORTEST_GAP : goal.returns-then-len-ge-SHORTEST_GAP
returns-then-len-ge-SHORTEST_GAP c =
    printed_gap _ c.args.groups.now
    (sym (segments_back c.args.groups.now (record { eight = c.told-groups; each = c.fits-groups })))
    (not_from_test _ _ c.is_mapped.ensures c.if-is_mapped.false) _ c.longest_run-start.ensures.run _ _ _ _ _
    c.if-len-ge-SHORTEST_GAP.true
    c.new-text.ensures c.push_groups.ensures.bytes c.push_str-then-len-ge-SHORTEST_GAP.ensures.bytes
    (grind (arith, common_steps)) c.push_groups-then-len-ge-SHORTEST_GAP.ensures.bytes

pub returns : goal.returns
returns c =
    printed_whole _ c.args.groups.now
    (sym (segments_back c.args.groups.now (record { eight = c.told-groups; each = c.fits-groups })))
    (not_from_test _ _ c.is_mapped.ensures c.if-is_mapped.false) _ c.longest_run-start.ensures.run _ _
    c.if-len-ge-SHORTEST_GAP.false
    c.new-text.ensures c.push_groups-2.ensures.bytes
