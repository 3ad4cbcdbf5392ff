use Rattle.cidr_join.proofs.Known.{◌∙◌, ap, sym, subst, refl, inl, inr, List, ℕ, Option, None, Some, Ok, ReadsEntry, EntryFails, AreNoRange, Pair, are_alike, value_behind, addresses_of, front_is, named_alone, named_first, named_range, two_here, value_is}
use Rattle.cidr_join.proofs.line.read_text.Goals as goal
use Rattle.cidr_join.proofs.line.read_text.Goals.{in_default-via-in-Some-2+else-are_one_family, in_default-via-in_default}

pub returns-in-Some-range-clause-ok : goal.returns-in-Some-range-clause-ok
returns-in-Some-range-clause-ok c =
    let text = c.args.text.now in
    let value = c.value_part-value.result.now in
    let two = two_here text value c.entry_len-end.result c.entry_len-end.ensures.len
    c.value_part-value.ensures (Some c.in-Some.pair) c.in-Some.ensures in
    let whole = value_is text value c.entry_len-end.result c.entry_len-end.ensures.len
    c.value_part-value.ensures in
    named_range c.args.ranges text c.in-Some-range.entry c.new.result.bytes.now (addresses_of text) c.in-Some.pair two
    c.if-ranges.true c.in-Some-range.ensures.0 c.in-Some-range.ensures.1
    (c.new.ensures ∙ c.value_behind.ensures ∙ ap value_behind whole)

pub returns-in-None-clause-err : goal.returns-in-None-clause-err
returns-in-None-clause-err c =
    let text = c.args.text.now in
    let value = c.value_part-value.result.now in
    let two = two_here text value c.entry_len-end.result c.entry_len-end.ensures.len
    c.value_part-value.ensures (Some c.in-Some.pair) c.in-Some.ensures in
    inr (c.if-ranges.true, subst (λ (p : Option Pair). AreNoRange p) (sym two) c.in-None.ensures, refl)

pub returns-in-Some-2-clause-err : goal.returns-in-Some-2-clause-err
returns-in-Some-2-clause-err c =
    let text = c.args.text.now in
    let value = c.value_part-value.result.now in
    let two = two_here text value c.entry_len-end.result c.entry_len-end.ensures.len
    c.value_part-value.ensures (Some c.in-Some.pair) c.in-Some.ensures in
    (c.if-ranges.false, ap are_alike two ∙ sym c.are_one_family.ensures ∙ c.if-are_one_family.true)

pub returns-in-Ok-clause-ok : goal.returns-in-Ok-clause-ok
returns-in-Ok-clause-ok c =
    let text = c.args.text.now in
    let value = c.value_part-value.result.now in
    let two = two_here text value c.entry_len-end.result c.entry_len-end.ensures.len
    c.value_part-value.ensures in
    let whole = c.new-in-Ok.ensures ∙ value_is text value c.entry_len-end.result
    c.entry_len-end.ensures.len c.value_part-value.ensures in
    let reads = subst (λ (f : List ℕ). ReadsEntry f (Ok (Some c.in-Ok.entry)))
    (front_is text value c.entry_len-end.result c.entry_len-end.ensures.len
    c.value_part-value.ensures) c.in-Ok.ensures.ok in
    elim c.in_default.branch [
      | in_default-via-in-Some-2+else-are_one_family w ↦
          named_first c.args.ranges text c.in-Ok.entry c.new-in-Ok.result.bytes.now (addresses_of text)
          (ap are_alike (two (Some w.in-Some.pair) w.in-Some.ensures) ∙ sym w.are_one_family.ensures
          ∙ w.if-are_one_family.false) w.if-ranges.false reads whole
      | in_default-via-in_default w ↦
          named_alone c.args.ranges text c.in-Ok.entry c.new-in-Ok.result.bytes.now (addresses_of text)
          (two None w.in_default.ensures) reads whole
    ]

pub returns-in-Err-clause-err : goal.returns-in-Err-clause-err
returns-in-Err-clause-err c =
    inl
    (subst (λ (f : List ℕ). EntryFails f c.in-Err.fault)
    (front_is c.args.text.now c.value_part-value.result.now c.entry_len-end.result
    c.entry_len-end.ensures.len c.value_part-value.ensures) c.in-Err.ensures.err)
