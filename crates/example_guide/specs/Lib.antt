-- Definitions for the contracts of this crate.
pub mod Pools
