use Rattle.cidr_join.proofs.Known.{ap, first_word, ip_of, sym, two_of}
use Rattle.cidr_join.proofs.pair.pair_of.Goals as goal

pub returns-then-ends_in_prefix : goal.returns-then-ends_in_prefix
returns-then-ends_in_prefix c = sym
    (ap (λ f. two_of f (ip_of (first_word c.args.value.now))) (c.ends_in_prefix.ensures c.if-ends_in_prefix.true))
