use Rattle.cidr_filter.proofs.Known.{◌≡◌, ◌∙◌, Bool, List, true, false, inl, inr, refl, sym, ap, subst, Result, Ok, OnOk, IfOk, IfErr, KnownLists, nothing_read, rules_of, Refused, no_refusals, ReadFault, inputs_of, Item, Ending, ending, FiltersLogs, HoldsRead, StopsAtItems, question_of, EndsRequest, StopsAtLists, filter_of, is_stopped_by, ReadsAll, Matcher}
use Rattle.cidr_filter.proofs.run.filter_files.Goals as goal

module _ {T X : Type 0} (known : KnownLists) (items : List Item) (result : Result T ReadFault) (done : T)
    (listed : Result Matcher X) (refused : Refused) (stops : Bool) (is : result ≡ Ok done)
    (read : OnOk result (ReadsAll known items (question_of items) listed refused))
    (same : stops ≡ is_stopped_by items refused) where
  was_read : ReadsAll known items (question_of items) listed refused
  was_read = subst (λ (r : Result T ReadFault). OnOk r (ReadsAll known items (question_of items) listed refused)) is
      read

  stopped : was_read.read.refused ≡ refused → (b : Bool) → stops ≡ b → is_stopped_by items was_read.read.refused ≡ b
  stopped lines b e = ap (is_stopped_by items) lines ∙ sym same ∙ e

  -- a refused line ends the run
  refuses : stops ≡ true → StopsAtLists known items
  refuses e = inl (was_read.read, was_read.is_read, stopped was_read.refused_lines true e)

  -- the lists were read, and the logs were filtered
  filtered : {W E : Type 0} (end : Ending W E) (held : Matcher) → stops ≡ false → listed ≡ Ok held
      → FiltersLogs (filter_of items held) known (inputs_of items) end.output end.output_after end.status
      → EndsRequest known items end
  filtered end held e has h =
      inl (
        was_read.read,
        was_read.is_read,
        stopped was_read.refused_lines false e,
        held,
        subst (λ (l : Result Matcher X). IfOk l (HoldsRead (question_of items) was_read.read)) has was_read.holds,
        h,
      )

pub returns-in-Err : goal.returns-in-Err
returns-in-Err g c =
    let known = g.L.OpenLists.known c.args.lists.now in
    inr (
      (refl, refl),
      inl (inr (
        c.in-Err.fault,
        c.read_listed-listed.result.1,
        subst (λ r. IfErr r (λ fault. StopsAtItems known 0 c.args.items.now
            (nothing_read (rules_of c.args.items.now) no_refusals) fault c.read_listed-listed.result.1))
            c.in-Err.is c.read_listed-listed.ensures.stopped,
      )),
    )

pub returns-then-is_stopped_by : goal.returns-then-is_stopped_by
returns-then-is_stopped_by g c =
    inr (
      (refl, refl),
      inl (refuses (g.L.OpenLists.known c.args.lists.now) c.args.items.now c.read_listed-listed.result.2
          c.in_default.field-0 c.read_listed-listed.result.0 c.read_listed-listed.result.1 c.is_stopped_by.result
          c.in_default.is
          (rw (c.question_of-question.ensures) at c.read_listed-listed.ensures.read) c.is_stopped_by.ensures
          c.if-is_stopped_by.true),
    )

pub returns-in_default-listed : goal.returns-in_default-listed
returns-in_default-listed g c =
    inr ((refl, c.refuse_memory.ensures.status), inr (c.tell_refusals.new.errors, c.refuse_memory.ensures.told))

pub returns-in_default-vec : goal.returns-in_default-vec
returns-in_default-vec g c =
    inr (
      (refl, c.refuse_memory-in_default-vec.ensures.status),
      inr (c.tell_refusals.new.errors, c.refuse_memory-in_default-vec.ensures.told),
    )

pub returns : goal.returns
returns g c =
    filtered (g.L.OpenLists.known c.args.lists.now) c.args.items.now c.read_listed-listed.result.2 c.in_default.field-0
    c.read_listed-listed.result.0 c.read_listed-listed.result.1 c.is_stopped_by.result c.in_default.is
    (rw (c.question_of-question.ensures) at c.read_listed-listed.ensures.read) c.is_stopped_by.ensures
    (ending c.args.output.now c.filter_logs.new.output c.args.errors.now c.filter_logs.new.errors c.filter_logs.result)
    c.in-Ok.listed
    c.if-is_stopped_by.false c.in-Ok.is (rw (c.requires.files, c.filter_of-filter.ensures) at c.filter_logs.ensures)
