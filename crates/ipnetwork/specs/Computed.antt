-- Functions that compute what the relations in the folder above define. The laws state that the two agree.
pub mod IpNetworks
pub mod IpNetworkText
