-- Functions that compute what the relations in the folder above define. The laws state that the two agree.
pub mod Either
pub mod Ipv4Text
pub mod Ipv6Canonical
pub mod Ipv6Text
pub mod Reading
