use Rattle.cidr.proofs.Known.{arith, encode_ascii}
use Rattle.std.proofs.lemmas.List.{length-append}
use Rattle.cidr.proofs.commands.ends.push_ends.Goals as goal

pub push_str-requires : goal.push_str-requires
push_str-requires c = grind (arith, length-append)

pub push-requires : goal.push-requires
push-requires c = grind (arith, length-append, encode_ascii)

pub push_str-requires-2 : goal.push_str-requires-2
push_str-requires-2 c = grind (arith, length-append)

pub push-requires-2 : goal.push-requires-2
push-requires-2 c = grind (arith, length-append)

pub push_str-requires-3 : goal.push_str-requires-3
push_str-requires-3 c = grind (arith, length-append)

pub push-requires-3 : goal.push-requires-3
push-requires-3 c = grind (arith, length-append)

pub push_number-requires : goal.push_number-requires
push_number-requires c = grind (arith, length-append)

pub returns-clause-short : goal.returns-clause-short
returns-clause-short c = grind (arith, length-append)
