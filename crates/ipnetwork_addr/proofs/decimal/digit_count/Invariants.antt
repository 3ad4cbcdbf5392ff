use Rattle.ipnetwork_addr.proofs.Known.{CountsDigits}
use Rattle.ipnetwork_addr.proofs.decimal.digit_count.Given as goal

abbrev pub invariant-digits : goal.invariant-digits
invariant-digits l = CountsDigits l.number l.count l.rest

abbrev pub decreases-digits : goal.decreases-digits
decreases-digits l = l.rest
