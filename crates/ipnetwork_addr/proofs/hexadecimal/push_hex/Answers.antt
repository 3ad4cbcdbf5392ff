use Rattle.ipnetwork_addr.proofs.Known.{arith, pushed_as, pushed_one, pushed_two, pushed_three, pushed_four}
use Rattle.ipnetwork_addr.proofs.hexadecimal.push_hex.Goals as goal

pub returns-else-group-ge16-clause-bytes : goal.returns-else-group-ge16-clause-bytes
returns-else-group-ge16-clause-bytes c =
    pushed_one c.args.group (omega arith)
    (pushed_as _ _ _ _ c.hex_digit-else-group-ge16.ensures.value
    (c.push-else-group-ge16.ensures.ascii c.hex_digit-else-group-ge16.ensures.ascii))

pub returns-then-group-ge16-clause-bytes : goal.returns-then-group-ge16-clause-bytes
returns-then-group-ge16-clause-bytes c =
    pushed_two c.args.group (omega arith) (omega arith)
    (pushed_as _ _ _ _ c.hex_digit-then-group-ge16.ensures.value
    (c.push-then-group-ge16.ensures.ascii c.hex_digit-then-group-ge16.ensures.ascii))
    (pushed_as _ _ _ _ c.hex_digit-then-group-ge16-2.ensures.value
    (c.push-then-group-ge16-2.ensures.ascii c.hex_digit-then-group-ge16-2.ensures.ascii))

pub returns-then-group-ge256-clause-bytes : goal.returns-then-group-ge256-clause-bytes
returns-then-group-ge256-clause-bytes c =
    pushed_three c.args.group (omega arith) (omega arith)
    (pushed_as _ _ _ _ c.hex_digit-then-group-ge256.ensures.value
    (c.push-then-group-ge256.ensures.ascii c.hex_digit-then-group-ge256.ensures.ascii))
    (pushed_as _ _ _ _ c.hex_digit-then-group-ge256-2.ensures.value
    (c.push-then-group-ge256-2.ensures.ascii c.hex_digit-then-group-ge256-2.ensures.ascii))
    (pushed_as _ _ _ _ c.hex_digit-then-group-ge256-3.ensures.value
    (c.push-then-group-ge256-3.ensures.ascii c.hex_digit-then-group-ge256-3.ensures.ascii))

pub returns-then-group-ge4096-clause-bytes : goal.returns-then-group-ge4096-clause-bytes
returns-then-group-ge4096-clause-bytes c =
    pushed_four c.args.group (omega arith) (omega arith)
    (pushed_as _ _ _ _ c.hex_digit.ensures.value (c.push.ensures.ascii c.hex_digit.ensures.ascii))
    (pushed_as _ _ _ _ c.hex_digit-then-group-ge4096.ensures.value
    (c.push-then-group-ge4096.ensures.ascii c.hex_digit-then-group-ge4096.ensures.ascii))
    (pushed_as _ _ _ _ c.hex_digit-then-group-ge4096-2.ensures.value
    (c.push-then-group-ge4096-2.ensures.ascii c.hex_digit-then-group-ge4096-2.ensures.ascii))
    (pushed_as _ _ _ _ c.hex_digit-then-group-ge4096-3.ensures.value
    (c.push-then-group-ge4096-3.ensures.ascii c.hex_digit-then-group-ge4096-3.ensures.ascii))
