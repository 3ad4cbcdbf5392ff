use Rattle.cidr_merge.proofs.Known.{rules, printed_more, fails_at}
use Rattle.cidr_merge.proofs.addresses.print_addresses.Goals as goal

pub loop-address-preserved : goal.loop-address-preserved
loop-address-preserved g c =
    printed_more _ _ _ _ _ _ _ _ c.loop-address.invariant c.in-Some.ensures.steps
    c.in_ok-put_address.ensures.ok c.in_ok-put_address.ensures.failed

pub returns-in_err-put_address : goal.returns-in_err-put_address
returns-in_err-put_address g c =
    fails_at _ _ _ _ _ _ c.put_address.new.output _ _ (search rules) c.loop-address.invariant
    c.in-Some.ensures.steps c.in_err-put_address.ensures.failed c.in_err-put_address.ensures.beginning
