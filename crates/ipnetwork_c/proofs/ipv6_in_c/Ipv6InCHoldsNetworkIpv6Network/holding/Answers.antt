use Rattle.ipnetwork_c.proofs.Known.{◌≡◌, ◌≤◌, sym, subst, Network, v6_in, v6_again}
use Rattle.ipnetwork_c.proofs.ipv6_in_c.Ipv6InCHoldsNetworkIpv6Network.holding.Goals as goal

pub returns : goal.returns
returns c =
    let is = c.ip.ensures.network in
    let same : v6_in c.of.result ≡ c.args.network = v6_again c.of.result c.args.network is c.of.ensures in
    (subst (λ (n : Network). n.prefix ≤ 128) (sym same) is.prefix_fits, same)
