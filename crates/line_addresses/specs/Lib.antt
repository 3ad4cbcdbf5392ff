-- What the contracts of this crate cite.
pub mod Addresses
pub mod Areas
pub mod Fields
pub mod Following
pub mod Found
pub mod Laws
pub mod Private
pub mod LineRuns
pub mod Networks
pub mod Numbers
pub mod Places
pub mod Words
