use Rattle.cidr_merge.proofs.Known.{◌≡◌, ◌∙◌, ◌∷◌, ◌++◌, ℕ, List, [], ap, arith, first_part, large_number, one_part, read_first, read_last, rules}
use Rattle.cidr_merge.specs.Hosts.{hosts_in}
use Rattle.cidr_merge.proofs.hosts.hosts_in.Goals as goal

pub loop-first-preserved : goal.loop-first-preserved
loop-first-preserved c =
    let cut = c.in-Some.ensures.byte (omega arith) (λ w o h. h) in
    let number : c.large_number.result ≡ large_number c.in-Some.first.now =
    c.large_number.ensures ∙ ap large_number c.as_bytes.ensures.value in
    record {
      text = search rules;
      read = ap (λ (l : List ℕ). l ++ hosts_in c.in-Some.others.now)
          (c.in_ok-push.ensures.items ∙ ap (λ (n : ℕ). c.loop-first.numbers.items ++ n ∷ []) number)
          ∙ read_first c.loop-first.numbers.items c.loop-first.left.now c.in-Some.first.now c.in-Some.others.now
          (hosts_in c.args.text.now)
          (first_part c.loop-first.left.now c.in-Some.first.now c.in-Some.others.now cut.0 cut.1 cut.2)
          c.loop-first.invariant.read;
    }

pub returns : goal.returns
returns c =
    let number : c.large_number-2.result ≡ large_number c.loop-first.left.now =
    c.large_number-2.ensures ∙ ap large_number c.as_bytes-2.ensures.value in
    c.in_ok-push-2.ensures.items ∙ ap (λ (n : ℕ). c.loop-first.numbers.items ++ n ∷ []) number
    ∙ read_last c.loop-first.numbers.items c.loop-first.left.now (hosts_in c.args.text.now)
    (one_part c.loop-first.left.now (c.in_default.ensures.byte (omega arith) (λ w o h. h))) c.loop-first.invariant.read
