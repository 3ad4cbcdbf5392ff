use Rattle.cidr_info.proofs.Known.{◌≡◌, ◌∙◌, ◌++◌, ◌+◌, ◌-◌, ◌==◌, [], ℕ, suc, List, ap, sym, subst, refl, arith, rules, append_assoc, append-nil, flat_map, range_with_len, Prints, puts_more, puts_nothing, puts_two, puts_it, fails_first, works_still, works_on, value_text}
use Rattle.cidr_info.proofs.printing.put_row.Goals as goal

pub loop-place-init : goal.loop-place-init
loop-place-init g c =
    let count = c.count_of-count.result in
    let all : count - 0 ≡ count = omega arith in
    let values = λ (total left : ℕ). flat_map
    (λ (place : ℕ). value_text c.args.form c.args.network.now c.args.field place (place + 1 == total))
    (range_with_len 0 left) in
    ([], puts_nothing _ _, refl, ap (values count) all ∙ ap (λ (n : ℕ). values n n) c.count_of-count.ensures)

pub loop-place-preserved : goal.loop-place-preserved
loop-place-preserved g c =
    let h = c.loop-place.invariant in
    let i = c.loop-place.place in
    let count = c.count_of-count.result in
    let next : count - i ≡ suc (count - (i + 1)) = omega arith in
    let values = λ (left : ℕ). flat_map
    (λ (place : ℕ). value_text c.args.form c.args.network.now c.args.field place (place + 1 == count))
    (range_with_len i left) in (
      _,
      puts_more _ _ _ _ _ _ h.0 _ h.1 c.in_ok-put_value.ensures.ok,
      works_on _ _ _ c.in_ok-put_value.ensures.failed h.2,
      append_assoc h.0 _ _ ∙ sym (ap (λ (n : ℕ). h.0 ++ values n) next) ∙ h.3,
    )

pub returns-in_err-put_value : goal.returns-in_err-put_value
returns-in_err-put_value g c =
    let h = c.loop-place.invariant in
    let i = c.loop-place.place in
    let count = c.count_of-count.result in
    let next : count - i ≡ suc (count - (i + 1)) = omega arith in
    let values = λ (from left : ℕ). flat_map
    (λ (place : ℕ). value_text c.args.form c.args.network.now c.args.field place (place + 1 == count))
    (range_with_len from left) in
    puts_it c.from_residual.result c.args.output.now c.put_value.new.output _ _
    (sym (ap (λ (n : ℕ). h.0 ++ values i n) next) ∙ h.3)
    (puts_two c.from_residual.result c.args.output.now c.loop-place.output c.put_value.new.output h.0 _
    h.1 (works_still _ _ h.2)
    (fails_first c.from_residual.result c.loop-place.output c.put_value.new.output _
    (values (i + 1) (count - (i + 1))) (search rules)
    c.in_err-put_value.ensures.failed c.in_err-put_value.ensures.beginning))

pub returns : goal.returns
returns g c =
    let h = c.loop-place.invariant in
    let i = c.loop-place.place in
    let count = c.count_of-count.result in
    let none : count - i ≡ 0 = omega arith in
    let values = λ (left : ℕ). flat_map
    (λ (place : ℕ). value_text c.args.form c.args.network.now c.args.field place (place + 1 == count))
    (range_with_len i left) in
    let all = sym (append-nil h.0) ∙ sym (ap (λ (n : ℕ). h.0 ++ values n) none) ∙ h.3 in
    record {
      ok = subst (λ (t : List ℕ). Prints c.args.output.now c.loop-place.output t) all h.1;
      failed = works_still _ _ h.2;
      beginning = tt;
    }
