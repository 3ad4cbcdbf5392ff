use Rattle.ipnetwork_addr.proofs.Known.{◌≡◌, ap, arith, lit≤, canonical_v4, v4_unique, canonical_v4_names}
use Rattle.ipnetwork_addr.proofs.laws.texts.canonical_v4_is_one_to_one.Goals as goal

pub returns : goal.returns
returns c a b fits_a fits_b = (
  λ e. ap canonical_v4 e,
  λ e. v4_unique _ a b (canonical_v4_names a fits_a) (rw e (canonical_v4_names b fits_b)),
)

-- example: the least and the greatest address
pub ends_print_apart : goal.returns → goal.Start → ¬ (canonical_v4 0 ≡ canonical_v4 4294967295)
ends_print_apart law c same =
    let one : 0 ≡ 4294967295 = (law c 0 4294967295 (lit≤ tt) (lit≤ tt)).1 same in
    omega (arith, one)
