use Rattle.log_programs.proofs.Known.{◌≡◌, ℕ, ◌-◌, ◌<◌, ◌≤◌, Bool, true, false, refl, sym, ap, ◌∙◌, arith, nat_le, if◌then◌else◌, Result, Ok, Err, result_unwrap_or, IpNetworkError, unmapped, IpAddr, IsIpNetwork, Makes, address_of, made_of, prefix_of, IpNetwork, unmapped_by}
use Rattle.ipnetwork_addr.specs.declared.ip.IpAddr.TheVariants as addresses
use Rattle.ipnetwork.specs.declared.ip_network.IpNetwork.TheVariants as families
use Rattle.log_programs.proofs.unmapping.unmapped_network.Goals as goal

module _ (network : IpNetwork) where
  abbrev by_test : ℕ → Bool → IpNetwork
  by_test a enough = if enough then made_of (addresses.V4 a) (prefix_of network - 96) else network

  few : (p : ℕ) → p < 96 → nat_le 96 p ≡ false
  few p h = grind (arith, h)

  enough : (p : ℕ) → 96 ≤ p → nat_le 96 p ≡ true
  enough p h = grind (arith, h)

  -- a network of more addresses than the IPv4-mapped ones
  wide : (address : IpAddr) → prefix_of network < 96 → network ≡ unmapped_by network address
  wide (addresses.V4 a) h = sym (ap (by_test a) (few (prefix_of network) h))
  wide (addresses.V6 a) h = refl

  most : (n : IpNetwork) → IsIpNetwork n → prefix_of n ≤ 128
  most (families.V4 n) is = omega (arith, is.prefix_fits)
  most (families.V6 n) is = is.prefix_fits

  -- the network of the IPv4 address is made
  made : (prefix a : ℕ) (result : Result IpNetwork IpNetworkError) → prefix ≡ prefix_of network → IsIpNetwork network
      → 96 ≤ prefix → Makes (addresses.V4 a) (prefix - 96) result
      → result_unwrap_or result network ≡ unmapped_by network (addresses.V4 a)
  made prefix a (Ok n) at is many makes = makes.0 ∙ ap (λ p. made_of (addresses.V4 a) (p - 96)) at
      ∙ sym (ap (by_test a) (enough (prefix_of network) (omega (arith, at, many))))
  made prefix a (Err fault) at is many makes = absurd (omega (arith, makes.1, at, most network is))

pub returns-then-prefix-lt96 : goal.returns-then-prefix-lt96
returns-then-prefix-lt96 c = wide c.args.network (unmapped (address_of c.args.network))
    (omega (arith, c.prefix-prefix.ensures.made, c.if-prefix-lt96.true))

pub returns-in-V4 : goal.returns-in-V4
returns-in-V4 c =
    let to = ap unmapped (sym c.ip.ensures.made) ∙ sym c.to_canonical.ensures ∙ c.in-V4.is in
    c.unwrap_or.ensures ∙ made c.args.network c.prefix-prefix.result c.in-V4.address c.new.result
    c.prefix-prefix.ensures.made c.prefix-prefix.ensures.network c.if-prefix-lt96.false c.new.ensures
    ∙ sym (ap (unmapped_by c.args.network) to)

pub returns-in-V6 : goal.returns-in-V6
returns-in-V6 c = sym (ap (unmapped_by c.args.network) (ap unmapped (sym c.ip.ensures.made) ∙ sym c.to_canonical.ensures
    ∙ c.in-V6.is))
