-- Functions that compute what the relations of the folder above state. The laws say that the two agree.
pub mod Ipv4NetworkText
pub mod Ipv6NetworkText
pub mod Network
pub mod NetworkText
pub mod PrefixNumber
