use Rattle.cidr_filter.proofs.Known.{test_is}
use Rattle.cidr_filter.proofs.matcher.Sets.tests_form.Goals as goal

pub returns : goal.returns
returns c = test_is c.membership_is_computed.ensures c.args.self.now c.args.mapped c.args.address c.has_form.result
    c.has_form.ensures
