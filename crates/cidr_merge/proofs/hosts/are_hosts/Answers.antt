use Rattle.cidr_merge.proofs.Known.{◌∙◌, all_with_first, all_with_last, ap, arith, first_part, none_with_first, one_part, rules, sym}
use Rattle.cidr_merge.specs.Hosts.{is_host_number}
use Rattle.cidr_merge.proofs.hosts.are_hosts.Goals as goal

pub loop-first-preserved : goal.loop-first-preserved
loop-first-preserved c =
    let cut = c.in-Some.ensures.byte (omega arith) (λ w o h. h) in
    record {
      text = search rules;
      same = c.loop-first.invariant.same
          ∙ all_with_first c.loop-first.left.now c.in-Some.first.now c.in-Some.others.now
          (first_part c.loop-first.left.now c.in-Some.first.now c.in-Some.others.now cut.0 cut.1 cut.2)
          (ap is_host_number (sym c.as_bytes.ensures.value) ∙ sym c.is_host_number.ensures ∙ c.if-not-is_host_number.false);
    }

pub returns-then-not-is_host_number : goal.returns-then-not-is_host_number
returns-then-not-is_host_number c =
    let cut = c.in-Some.ensures.byte (omega arith) (λ w o h. h) in
    sym (c.loop-first.invariant.same
    ∙ none_with_first c.loop-first.left.now c.in-Some.first.now c.in-Some.others.now
    (first_part c.loop-first.left.now c.in-Some.first.now c.in-Some.others.now cut.0 cut.1 cut.2)
    (ap is_host_number (sym c.as_bytes.ensures.value) ∙ sym c.is_host_number.ensures ∙ c.if-not-is_host_number.true))

pub returns : goal.returns
returns c =
    c.is_host_number-2.ensures ∙ ap is_host_number c.as_bytes-2.ensures.value
    ∙ sym (c.loop-first.invariant.same
    ∙ all_with_last c.loop-first.left.now (one_part c.loop-first.left.now (c.in_default.ensures.byte (omega arith)
    (λ w o h. h))))
