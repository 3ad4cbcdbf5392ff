use Rattle.cidr_join.proofs.Known.{◌∙◌, ◌++◌, [], false, List, ℕ, map, length, inl, inr, refl, sym, ap, subst, Some, flat_map, status_by, IsTally, rows_text, row_of, named_by, IsCounted, Found, named_listed, counts_both, counts_nothing, finishes}
use Rattle.cidr_join.proofs.tally_logs.tally_logs.Goals as goal

pub returns-in_default : goal.returns-in_default
returns-in_default g c = inl ((refl, c.refuse_memory.ensures.status), (c.args.errors.now, c.refuse_memory.ensures.told))

pub returns-in_default-new : goal.returns-in_default-new
returns-in_default-new g c =
    inl (
      (refl, c.refuse_memory-in_default-new.ensures.status),
      (c.args.errors.now, c.refuse_memory-in_default-new.ensures.told),
    )

pub returns-in_default-tally_each : goal.returns-in_default-tally_each
returns-in_default-tally_each g c = elim c.in_default-tally_each.ensures [
  | inl memory ↦ inl ((refl, refl), memory)
  | inr stops ↦ inr (inl (
    stops.0,
    stops.1,
    stops.2,
    (λ cut. let f = stops.3 cut in (f.0, f.1, f.2, f.3, inr f.4)),
    (refl, refl),
  ))
]

pub returns-in_default-into_rows : goal.returns-in_default-into_rows
returns-in_default-into_rows g c =
    inl (
      (refl, c.refuse_memory-in_default-into_rows.ensures.status),
      (c.tally_each.new.errors, c.refuse_memory-in_default-into_rows.ensures.told),
    )

pub returns : goal.returns
returns g c =
    let counts = c.in-Some.ensures in
    let rows = c.in-Ok-into_rows.rows.items in
    let numbered = c.in-Ok.numbered.founds.items in
    let written = c.write_rows-written.result in
    inr (inr (
      counts.marks ++ [],
      c.in-Some.missed,
      map row_of rows,
      counts.goes_on false [] (Some c.in-Some.missed) (inl (refl, refl)),
      subst (λ (n : List (List ℕ)). IsTally n (counts.marks ++ []) (map row_of rows))
          (ap (flat_map (named_by c.args.join.now.zeros)) c.founds-founds.ensures ∙ named_listed c.args.join.now.answers
          c.in-Ok.numbered c.args.join.now.zeros c.in-Ok.ensures)
          (c.in-Ok-into_rows.ensures (counts.marks ++ [])
          (subst (λ (f : List Found). IsCounted f (counts.marks ++ []) c.tally_each.new.counts)
          (sym c.founds-founds.ensures)
          (counts_both numbered c.in-Ok-new.counts c.tally_each.new.counts c.tally_each.new.counts counts.marks []
          counts.counts (counts_nothing numbered c.tally_each.new.counts) []
          (c.in-Ok-new.ensures numbered (ap length c.founds-founds.ensures))))),
      finishes written c.args.output.now c.write_rows-written.new.output (rows_text (map row_of rows))
          c.args.output.now.failed (status_by (Some c.in-Some.missed)) c.end.result
          (rw c.as_slice.ensures.value at c.write_rows-written.ensures.ok)
          (rw c.as_slice.ensures.value at c.write_rows-written.ensures.beginning)
          c.write_rows-written.ensures.failed (rw c.status.ensures at c.end.ensures),
    ))
