use Rattle.ipnetwork_c.proofs.Known.{◌≡◌, ◌≤◌, sym, subst, Network, v4_in, v4_again}
use Rattle.ipnetwork_c.proofs.ipv4_in_c.Ipv4InCHoldsNetworkIpv4Network.holding.Goals as goal

pub returns : goal.returns
returns c =
    let is = c.ip.ensures.network in
    let same : v4_in c.of.result ≡ c.args.network = v4_again c.of.result c.args.network is c.of.ensures in
    (subst (λ (n : Network). n.prefix ≤ 32) (sym same) is.prefix_fits, same)
