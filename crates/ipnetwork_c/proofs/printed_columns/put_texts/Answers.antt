use Rattle.ipnetwork_c.proofs.Known.{◌≡◌, ℕ, List, ◌∙◌, arith, within_whole, row_printed, end_goes_on}
use Rattle.ipnetwork_c.proofs.printed_columns.put_texts.Goals as goal

pub put_at-end-requires : goal.put_at-end-requires
put_at-end-requires g c =
    let t : List ℕ = c.as_bytes.result.now in
    let is : t ≡ g.R.PrintsRow.text c.index-rows-row.result = c.as_bytes.ensures.value ∙ c.as_str.ensures.value
    ∙ c.row_text.ensures.bytes in
    let most = within_whole g.R.PrintsRow.text c.args.rows.now c.loop-row.row c.index-rows-row.result t c.loop-row.end
    (omega arith) c.index-rows-row.is is c.loop-row.invariant.end in
    omega (arith, most, c.requires.room, c.loop-row.auto.texts)

pub overflow_cast-offsets : goal.overflow_cast-offsets
overflow_cast-offsets g c =
    let t : List ℕ = c.as_bytes.result.now in
    let is : t ≡ g.R.PrintsRow.text c.index-rows-row.result = c.as_bytes.ensures.value ∙ c.as_str.ensures.value
    ∙ c.row_text.ensures.bytes in
    let most = within_whole g.R.PrintsRow.text c.args.rows.now c.loop-row.row c.index-rows-row.result t c.loop-row.end
    (omega arith) c.index-rows-row.is is c.loop-row.invariant.end in
    omega (arith, most, c.requires.short, c.put_at-end.ensures.end)

pub loop-row-preserved : goal.loop-row-preserved
loop-row-preserved g c =
    let t : List ℕ = c.as_bytes.result.now in
    let is : t ≡ g.R.PrintsRow.text c.index-rows-row.result = c.as_bytes.ensures.value ∙ c.as_str.ensures.value
    ∙ c.row_text.ensures.bytes in
    record {
      end = end_goes_on g.R.PrintsRow.text c.args.rows.now c.loop-row.row c.index-rows-row.result t c.loop-row.end
          c.put_at-end.result (omega arith) c.index-rows-row.is is c.loop-row.invariant.end c.put_at-end.ensures.end;
      printed = row_printed g.R.PrintsRow.text c.args.rows.now c.loop-row.row c.index-rows-row.result t c.args.texts.now
          c.loop-row.texts c.put_at-end.new.texts c.args.offsets.now c.loop-row.offsets c.loop-row.end
          c.put_at-end.result
          (omega arith) c.index-rows-row.is is c.loop-row.invariant.end c.put_at-end.ensures.end
          c.put_at-end.ensures.put c.requires.offsets c.loop-row.invariant.printed;
    }
