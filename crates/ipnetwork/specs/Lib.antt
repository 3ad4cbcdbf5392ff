pub mod Computed
pub mod IpNetworkText
pub mod IpNetworks
pub mod Laws
pub mod Private
pub mod Sizes
