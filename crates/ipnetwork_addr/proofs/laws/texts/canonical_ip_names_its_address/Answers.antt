use Rattle.ipnetwork_addr.proofs.Known.{lit≤, codes, digits, NamesV4, NamesV6, V4, V6, canonical_ip_names}
use Rattle.ipnetwork_addr.proofs.laws.texts.canonical_ip_names_its_address.Goals as goal

pub returns : goal.returns
returns c = canonical_ip_names

-- examples in either family
pub v4_is_named : goal.returns → goal.Start → NamesV4 (codes "255.255.255.255") 4294967295
unfolding digits
v4_is_named law c = law c (V4 4294967295) (lit≤ tt)

pub v6_is_named : goal.returns → goal.Start → NamesV6 (codes "::1") 1
unfolding digits
v6_is_named law c = law c (V6 1) (lit≤ tt)
