use Rattle.cidr_merge.proofs.Known.{◌+◌, List, ℕ, arith, map, subst, sym, take, string_bytes, OutOfMemory, AreTexts, TextStops, no_memory, text_more, texts_stop, whole}
use Rattle.cidr_merge.proofs.texts.texts_of.Goals as goal

pub loop-place-preserved : goal.loop-place-preserved
loop-place-preserved g c =
    let from = whole (g.L.OpenLists.known c.args.context.now.lists.now) c.args.is_whole in
    let names = c.args.names.now in
    subst (λ ts. AreTexts from (take (c.loop-place.place + 1) names) (map (λ text. text.items) ts))
    (sym c.in-Ok-push.ensures.items)
    (text_more
    (λ text. text.items) from names c.loop-place.place c.index-names-place.result
    c.as_str.result.now c.loop-place.texts.items c.in-Ok.text
    (omega arith) c.index-names-place.is c.as_str.ensures.value c.loop-place.invariant
    c.in-Ok.ensures.ok)

pub returns-in-Err-clause-err : goal.returns-in-Err-clause-err
returns-in-Err-clause-err g c =
    let from = whole (g.L.OpenLists.known c.args.context.now.lists.now) c.args.is_whole in
    texts_stop from c.loop-place.place c.args.names.now c.index-names-place.result _ c.in-Err.fault
    (omega arith) c.index-names-place.is c.loop-place.invariant
    (subst (λ (n : List ℕ). TextStops from n c.in-Err.fault) c.as_str.ensures.value
    c.in-Err.ensures.err)

pub returns-in_default-clause-err : goal.returns-in_default-clause-err
returns-in_default-clause-err g c =
    let from = whole (g.L.OpenLists.known c.args.context.now.lists.now) c.args.is_whole in
    texts_stop from c.loop-place.place c.args.names.now c.index-names-place.result _ OutOfMemory
    (omega arith) c.index-names-place.is c.loop-place.invariant
    (no_memory from (string_bytes c.index-names-place.result))
