use Rattle.cidr_merge.proofs.Known.{inl, refl, subst, take, take_rest, TextsStop, as_many_froms, as_many_lists, froms_within, names_within, searched, as_many_networks, whole}
use Rattle.cidr_merge.proofs.find.find_all.Goals as goal

pub split_at-requires : goal.split_at-requires
split_at-requires g c = names_within
    (whole (g.L.OpenLists.known c.args.context.now.lists.now) c.args.rules.is_whole) _ _ _ _ (λ text. text.items) _
    c.in-Ok.texts.items refl
    (take_rest c.args.context.now.names.now c.args.middle) c.requires.words c.in-Ok.ensures.ok

pub split_at-requires-2 : goal.split_at-requires-2
split_at-requires-2 g c = froms_within
    (whole (g.L.OpenLists.known c.args.context.now.lists.now) c.args.rules.is_whole) _ _ _ _ (λ text. text.items) _
    _ c.as_slice.ensures.value
    (take_rest c.args.context.now.names.now c.args.middle) c.requires.words c.in-Ok.ensures.ok

pub invariant_of-froms : goal.invariant_of-froms
invariant_of-froms g c = record {
  as_many = rw (c.split_at.ensures.front, c.split_at-2.ensures.front)
      (as_many_froms (whole (g.L.OpenLists.known c.args.context.now.lists.now) c.args.rules.is_whole) _ _ _ _
      (λ text. text.items) _ _
      c.as_slice.ensures.value (take_rest c.args.context.now.names.now c.args.middle) c.requires.words
      c.in-Ok.ensures.ok);
}

pub invariant_of-lists : goal.invariant_of-lists
invariant_of-lists g c = record {
  as_many = rw (c.split_at.ensures.back, c.split_at-2.ensures.back)
      (as_many_lists (whole (g.L.OpenLists.known c.args.context.now.lists.now) c.args.rules.is_whole) _ _ _ _
      (λ text. text.items) _ _
      c.as_slice.ensures.value (take_rest c.args.context.now.names.now c.args.middle) c.requires.words
      c.in-Ok.ensures.ok);
}

pub all_sought-requires : goal.all_sought-requires
all_sought-requires g c =
    as_many_networks (take c.args.middle c.args.context.now.names.now) c.args.networks.now c.requires.networks

pub returns-in-Ok-all_sought : goal.returns-in-Ok-all_sought
returns-in-Ok-all_sought g c = searched
    (whole (g.L.OpenLists.known c.args.context.now.lists.now) c.args.rules.is_whole) _ _ _ _ (λ text. text.items)
    _ _ c.as_slice.ensures.value
    (take_rest c.args.context.now.names.now c.args.middle) c.requires.words c.in-Ok.ensures.ok c.args.rules c.args.networks.now
    c.args.output.now c.search.new.output c.search.result
    (rw (
      c.in-Ok-all_sought.ensures.sought,
      c.split_at.ensures.back,
      c.split_at-2.ensures.front,
      c.split_at-2.ensures.back,
    ) at c.search.ensures)

pub returns-in-Err : goal.returns-in-Err
returns-in-Err g c =
    let stops = subst (λ names. TextsStop
    (whole (g.L.OpenLists.known c.args.context.now.lists.now) c.args.rules.is_whole) names c.in-Err.fault)
    (take_rest c.args.context.now.names.now c.args.middle) c.in-Err.ensures.err in
    inl (c.in-Err.fault, stops, (refl, c.refuse_lists.ensures))
