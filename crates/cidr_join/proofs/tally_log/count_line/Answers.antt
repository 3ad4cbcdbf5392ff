use Rattle.cidr_join.proofs.Known.{◌∙◌, [], sym, counted_in, line_gives, line_refused}
use Rattle.cidr_join.proofs.tally_log.count_line.Goals as goal

pub returns-then-refuses-clause-err : goal.returns-then-refuses-clause-err
returns-then-refuses-clause-err c =
    line_refused c.args.join.now c.args.seen.now c.args.line.now [] c.requires.short c.network_in-asked.result
    c.network_in-asked.ensures counted_in
    (sym c.refuses.ensures ∙ c.if-refuses.true)

pub returns-in-Ok-clause-ok : goal.returns-in-Ok-clause-ok
returns-in-Ok-clause-ok c =
    let join = c.args.join.now in
    let line = c.args.line.now in
    let h = c.in-Ok.ensures in (
      counted_in join c.network_in-asked.result h.0 line [],
      line_gives join c.args.seen.now line [] c.requires.short c.network_in-asked.result c.network_in-asked.ensures
          counted_in c.add.new.self h.0
          (sym c.refuses.ensures ∙ c.if-refuses.false)
          h.1 (rw c.is_some.ensures at c.add.ensures),
      h.2,
    )
