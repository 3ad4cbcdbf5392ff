use Rattle.ipnetwork_addr.proofs.Known.{two_hexes, three_hexes, four_hexes, no_group_of_five, arith}
use Rattle.ipnetwork_addr.proofs.group.read_group.Goals as goal

pub returns-in_default-read_hex : goal.returns-in_default-read_hex
returns-in_default-read_hex c = two_hexes c.in_ok-first.ensures c.in-Some.ensures c.in_default-read_hex.ensures

pub returns-in_default-read_hex-2 : goal.returns-in_default-read_hex-2
returns-in_default-read_hex-2 c =
    three_hexes c.in_ok-first.ensures c.in-Some.ensures c.in-Some-read_hex.ensures c.in_default-read_hex-2.ensures

pub returns-in-None : goal.returns-in-None
returns-in-None c =
    four_hexes c.in_ok-first.ensures c.in-Some.ensures c.in-Some-read_hex.ensures c.in-Some-read_hex-2.ensures
    c.in-None.ensures

pub returns-in-Some-read_hex-3 : goal.returns-in-Some-read_hex-3
returns-in-Some-read_hex-3 c =
    no_group_of_five c.in_ok-first.ensures c.in-Some.ensures c.in-Some-read_hex.ensures c.in-Some-read_hex-2.ensures
    c.in-Some-read_hex-3.ensures

pub overflow_cast-result : goal.overflow_cast-result
overflow_cast-result c = omega (arith, c.in_ok-first.ensures.below_sixteen)

pub overflow_mul-two : goal.overflow_mul-two
overflow_mul-two c = omega (arith, c.in_ok-first.ensures.below_sixteen)

pub overflow_add-two : goal.overflow_add-two
overflow_add-two c = omega (arith, c.in_ok-first.ensures.below_sixteen, c.in-Some.ensures.below_sixteen)

pub overflow_cast-result-in_default-read_hex : goal.overflow_cast-result-in_default-read_hex
overflow_cast-result-in_default-read_hex c =
    omega (arith, c.in_ok-first.ensures.below_sixteen, c.in-Some.ensures.below_sixteen)

pub overflow_mul-three : goal.overflow_mul-three
overflow_mul-three c = omega (arith, c.in_ok-first.ensures.below_sixteen, c.in-Some.ensures.below_sixteen)

pub overflow_add-three : goal.overflow_add-three
overflow_add-three c = omega (
  arith,
  c.in_ok-first.ensures.below_sixteen,
  c.in-Some.ensures.below_sixteen,
  c.in-Some-read_hex.ensures.below_sixteen,
)

pub overflow_cast-result-in_default-read_hex-2 : goal.overflow_cast-result-in_default-read_hex-2
overflow_cast-result-in_default-read_hex-2 c =
    omega (
      arith,
      c.in_ok-first.ensures.below_sixteen,
      c.in-Some.ensures.below_sixteen,
      c.in-Some-read_hex.ensures.below_sixteen,
    )

pub overflow_mul-result : goal.overflow_mul-result
overflow_mul-result c = omega (
  arith,
  c.in_ok-first.ensures.below_sixteen,
  c.in-Some.ensures.below_sixteen,
  c.in-Some-read_hex.ensures.below_sixteen,
)

pub overflow_add-result : goal.overflow_add-result
overflow_add-result c = omega (
  arith,
  c.in_ok-first.ensures.below_sixteen,
  c.in-Some.ensures.below_sixteen,
  c.in-Some-read_hex.ensures.below_sixteen,
  c.in-Some-read_hex-2.ensures.below_sixteen,
)

pub overflow_cast-result-in-None : goal.overflow_cast-result-in-None
overflow_cast-result-in-None c =
    omega (
      arith,
      c.in_ok-first.ensures.below_sixteen,
      c.in-Some.ensures.below_sixteen,
      c.in-Some-read_hex.ensures.below_sixteen,
      c.in-Some-read_hex-2.ensures.below_sixteen,
    )
