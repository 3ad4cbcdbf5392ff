use Rattle.cidr_merge.proofs.Known.{inl, inr, refl, rules, ends_writing}
use Rattle.cidr_merge.proofs.run.answer.Goals as goal

pub returns-then-is_held_back : goal.returns-then-is_held_back
returns-then-is_held_back g c =
    inr ((search rules), inl (rw c.if-is_held_back.true at c.is_held_back.ensures, (refl, refl)))

pub returns : goal.returns
returns g c =
    let h = c.write_answer-written.ensures in
    inr (
      (search rules),
      inr (
        rw c.if-is_held_back.false at c.is_held_back.ensures,
        h.0,
        h.1,
        ends_writing c.write_answer-written.result c.args.output.now
            c.write_answer-written.new.output h.0 c.status-status.result _ c.end.result h.2 c.end.ensures
            c.status-status.ensures,
      ),
    )
