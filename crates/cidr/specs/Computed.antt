-- Functions that compute what relations specify.
pub mod Output
