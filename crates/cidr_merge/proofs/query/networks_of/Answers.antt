use Rattle.cidr_merge.proofs.Known.{◌+◌, ◌∙◌, arith, subst, sym, take, AreNetworks, networks_on, wrong_word}
use Rattle.cidr_merge.proofs.query.networks_of.Goals as goal

pub returns-in-Err-clause-err : goal.returns-in-Err-clause-err
returns-in-Err-clause-err c =
    wrong_word c.args.words.now c.loop-place.place c.index-words-place.result c.as_bytes.result.now c.in-Err.fault
    (omega arith) c.index-words-place.is (c.as_bytes.ensures.value ∙ c.as_str.ensures.value) (sym c.in-Err.ensures)

pub loop-place-preserved : goal.loop-place-preserved
loop-place-preserved c =
    subst (λ found. AreNetworks (take (c.loop-place.place + 1) c.args.words.now) found)
    (sym c.in-Ok-push.ensures.items)
    (networks_on c.args.words.now c.loop-place.networks.items c.loop-place.place
    c.index-words-place.result c.as_bytes.result.now c.in-Ok.network
    (omega arith) c.index-words-place.is
    (c.as_bytes.ensures.value ∙ c.as_str.ensures.value) c.loop-place.invariant (sym c.in-Ok.ensures))
