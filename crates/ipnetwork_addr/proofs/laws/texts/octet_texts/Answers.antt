use Rattle.ipnetwork_addr.proofs.Known.{◌≡◌, refl, arith, lit≤, codes, digits, IsOctet, IsPlainOctet, plain_from_octet, octet_from_plain}
use Rattle.ipnetwork_addr.proofs.laws.texts.octet_texts.Goals as goal

pub returns : goal.returns
returns c text n = (plain_from_octet text n, octet_from_plain text n)

-- examples: the greatest value, and a leading zero
pub greatest_octet : goal.returns → goal.Start → IsPlainOctet (codes "255") 255
unfolding digits
greatest_octet law c = (law c (codes "255") 255).0 (lit≤ tt, refl)

pub leading_zero : goal.returns → goal.Start → ¬ (IsOctet (codes "01") 1)
leading_zero law c octet =
    let short : 2 ≡ 1 = ((law c (codes "01") 1).0 octet).no_leading_zero refl in
    omega (arith, short)
