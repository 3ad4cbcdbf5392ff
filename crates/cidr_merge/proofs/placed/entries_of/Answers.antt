use Rattle.cidr_merge.proofs.Known.{◌∙◌, ◌++◌, map, sym, ap, subst, append-nil, flat_map, IsPermutation, IsPermutation-map, line_entries, listed_as, sorted_as}
use Rattle.cidr_merge.proofs.placed.entries_of.Goals as goal

pub returns : goal.returns
returns c =
    let entries = c.loop-line.entries.items in
    let sorted = c.sort_unstable.new.self.items in
    let found = sym (append-nil (map listed_as entries))
    ∙ ap (λ ls. map listed_as entries ++ flat_map (line_entries c.args.lists.now.rules) ls) (sym c.in_default.ensures.line)
    ∙ c.loop-line.invariant in record {
      same = subst (λ f. IsPermutation f (map listed_as sorted)) found
          (IsPermutation-map listed_as entries sorted c.sort_unstable.ensures.permutation);
      ordered = sorted_as sorted c.sort_unstable.ensures.sorted;
    }
