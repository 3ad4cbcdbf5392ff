pub mod Joining
pub mod Reducing
pub mod Private
